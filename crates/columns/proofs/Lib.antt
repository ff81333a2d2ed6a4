pub mod Products
pub mod Quotients
pub mod Steps
pub mod Dividing
pub mod Rows
