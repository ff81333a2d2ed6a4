pub mod Share
pub mod Repair
pub mod Examples
pub mod Inner
