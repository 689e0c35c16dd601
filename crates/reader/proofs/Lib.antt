pub mod Readers
pub mod Settled
