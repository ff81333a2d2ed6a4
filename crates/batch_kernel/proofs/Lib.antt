pub mod Spots
pub mod Picks
pub mod Weights
pub mod Told
pub mod Rows
