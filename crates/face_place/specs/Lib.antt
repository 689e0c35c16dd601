pub mod Held
pub mod Args
pub mod Placed
pub mod Said
