pub mod PointTable
pub mod Words
pub mod SumLoops
pub mod Answers
