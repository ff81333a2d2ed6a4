pub mod Tops
pub mod Steps
pub mod Grounds
pub mod Answers
pub mod Exact
pub mod Eight
pub mod Examples
