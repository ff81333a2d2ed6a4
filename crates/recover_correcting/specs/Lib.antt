pub mod RecoverCorrecting
pub mod Claims
pub mod Inner
