pub mod Says
pub mod Solve
pub mod Put
pub mod Fits
pub mod Room
