pub mod Rows
pub mod Parts
pub mod Blocks
pub mod Located
