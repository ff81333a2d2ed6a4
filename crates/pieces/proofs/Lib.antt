pub mod Blocks
pub mod Pieces
