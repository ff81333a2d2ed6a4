pub mod Refusals
pub mod Weights
pub mod Runs
pub mod Sums
pub mod Parts
pub mod Shares
pub mod Feeds
pub mod OneShare
