pub mod Lines
pub mod Filling
pub mod Steps
pub mod Feeding
pub mod Answering
pub mod AnyCuts
pub mod Settled
pub mod Written
