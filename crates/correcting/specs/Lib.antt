pub mod Correcting
pub mod Calls
pub mod Inner
