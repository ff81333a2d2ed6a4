pub mod RepairBatch
pub mod BatchCalls
pub mod Inner
