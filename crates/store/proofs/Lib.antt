pub mod Trays
pub mod Answers
pub mod Settled
