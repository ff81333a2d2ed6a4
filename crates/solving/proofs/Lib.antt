pub mod Runs
pub mod Solve
