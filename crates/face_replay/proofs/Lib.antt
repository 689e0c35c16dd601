pub mod Backs
pub mod TapesBack
pub mod Settled
pub mod Telling
