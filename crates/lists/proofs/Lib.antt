pub mod Bools
pub mod Numbers
pub mod Powers
pub mod Tables
pub mod Loops
pub mod Numbered
pub mod Computed
