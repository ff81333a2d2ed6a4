pub mod Checksum
pub mod Remainder
pub mod Claims
pub mod Inner
