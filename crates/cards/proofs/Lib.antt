pub mod Compare
pub mod Grounds
pub mod Repair
pub mod Answers
pub mod Claims
pub mod Mixed
