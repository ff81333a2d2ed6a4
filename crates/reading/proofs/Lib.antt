pub mod Ranges
pub mod Grounds
pub mod ReadsTheCodeword
