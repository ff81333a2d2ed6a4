pub mod Digits
pub mod Points
pub mod Terms
pub mod Sums
pub mod Whole
