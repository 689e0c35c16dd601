pub mod States
pub mod Requests
pub mod Parts
