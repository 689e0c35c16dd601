pub mod Decimal
pub mod Texts
pub mod Laying
pub mod Settled
