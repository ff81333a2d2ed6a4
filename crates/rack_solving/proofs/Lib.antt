pub mod Lists
pub mod Points
pub mod Wide
pub mod Room
pub mod Symbols
