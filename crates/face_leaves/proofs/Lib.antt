pub mod Puts
pub mod ReadBack
pub mod Settled
pub mod Signed
pub mod Slotted
pub mod Spelt
pub mod Telling
