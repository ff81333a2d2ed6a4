pub mod Refusals
pub mod Batches
pub mod Single
