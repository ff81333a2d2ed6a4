pub mod Facts
pub mod Numbers
pub mod Parts
pub mod Lists
pub mod Answer
pub mod Sizes
