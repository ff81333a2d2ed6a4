pub mod Reach
pub mod Formula
pub mod Right
pub mod Instances
pub mod Grounds
