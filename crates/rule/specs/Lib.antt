pub mod Rule
pub mod Lost
pub mod Inner
