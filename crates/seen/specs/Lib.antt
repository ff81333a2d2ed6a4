pub mod Seen
pub mod Inner
