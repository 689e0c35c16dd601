pub mod Tapes
pub mod Cuts
pub mod AnyCuts
