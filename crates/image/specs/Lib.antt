pub mod Image
pub mod Rules
pub mod Claims
pub mod Inner
