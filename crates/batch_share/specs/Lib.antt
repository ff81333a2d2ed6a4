pub mod ShareBatch
pub mod Inner
