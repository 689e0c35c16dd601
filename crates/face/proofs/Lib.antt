pub mod Handed
pub mod Lent
pub mod Settled
pub mod Within
