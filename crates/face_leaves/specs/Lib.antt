pub mod Types
pub mod Addresses
pub mod Slots
pub mod Spelt
pub mod Records
