pub mod Refusals
pub mod Seen
pub mod Pieces
pub mod Cutting
pub mod Exact
pub mod Single
pub mod Unique
