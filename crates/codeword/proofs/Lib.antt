pub mod Usable
pub mod Buffers
pub mod Words
pub mod Points
pub mod Answers
pub mod Unique
pub mod Places
