pub mod Racks
pub mod Rule
pub mod Solutions
pub mod Lost
pub mod Exact
pub mod Single
pub mod Instances
