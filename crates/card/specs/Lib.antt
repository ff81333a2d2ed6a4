pub mod Card
pub mod Grounds
pub mod Inner
