pub mod TestKept
pub mod Claims
pub mod Inner
