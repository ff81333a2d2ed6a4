pub mod Steps
pub mod Sides
pub mod Points
pub mod Formula
pub mod Rows
