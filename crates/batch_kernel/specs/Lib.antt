pub mod Ready
pub mod Wide
pub mod Inner
