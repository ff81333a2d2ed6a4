pub mod Runs
pub mod Rows
pub mod Spaced
pub mod Standing
pub mod Periods
pub mod Apart
