pub mod Racks
pub mod Repairs
pub mod Records
