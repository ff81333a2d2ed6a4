pub mod Numbers
pub mod Places
pub mod Raising
pub mod Above
