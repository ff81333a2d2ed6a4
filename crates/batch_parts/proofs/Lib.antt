pub mod Parts
pub mod Times
