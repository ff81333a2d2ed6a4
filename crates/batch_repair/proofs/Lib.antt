pub mod Symbols
pub mod Refusals
pub mod Rows
pub mod Pieces
pub mod Cutting
pub mod Single
