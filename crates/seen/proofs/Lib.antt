pub mod Runs
pub mod Places
pub mod Groups
pub mod Trays
pub mod Piece
