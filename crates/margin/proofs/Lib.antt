pub mod Counting
pub mod Signed
pub mod Grounds
pub mod Range
