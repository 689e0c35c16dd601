pub mod Nans
