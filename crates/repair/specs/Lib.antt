pub mod Repair
pub mod Calls
pub mod Exact
pub mod One
pub mod Inner
