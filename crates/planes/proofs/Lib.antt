pub mod Planes
pub mod Sums
