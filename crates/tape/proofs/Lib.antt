pub mod Whole
pub mod Cutting
pub mod Going
pub mod Feeds
pub mod AnyCuts
pub mod Answered
pub mod Settled
