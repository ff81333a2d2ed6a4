pub mod Blocks
pub mod Solutions
pub mod Settled
pub mod Answers
pub mod Whole
pub mod Claims
