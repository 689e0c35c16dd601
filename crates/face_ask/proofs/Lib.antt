pub mod Settled
pub mod Telling
