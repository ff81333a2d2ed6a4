pub mod Scrub
pub mod Calls
pub mod Inner
