pub mod Exactly
pub mod Kept
pub mod Settled
