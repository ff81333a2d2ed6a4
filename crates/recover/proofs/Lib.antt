pub mod Restored
pub mod Grounds
pub mod Answers
pub mod Settled
