pub mod WithTray
pub mod Trials
pub mod Answers
pub mod Settled
pub mod Wrong
pub mod Looks
pub mod Claims
