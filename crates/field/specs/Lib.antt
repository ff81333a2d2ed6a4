pub mod Numbers
pub mod Themselves
