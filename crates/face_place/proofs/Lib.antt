pub mod Placing
pub mod Held
pub mod Said
pub mod Settled
