pub mod Layers
pub mod Columns
pub mod Blocks
pub mod Answers
pub mod Seen
pub mod Walks
pub mod Broken
