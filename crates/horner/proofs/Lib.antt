pub mod Loops
pub mod Doublings
pub mod Digits
