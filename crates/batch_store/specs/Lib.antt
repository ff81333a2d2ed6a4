pub mod Store
pub mod Claims
pub mod Inner
