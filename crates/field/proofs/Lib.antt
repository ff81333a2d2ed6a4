pub mod Numbers
pub mod Inverting
