pub mod Cards
pub mod CardCalls
pub mod Inner
