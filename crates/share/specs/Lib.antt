pub mod Share
pub mod Many
pub mod One
pub mod Inner
pub mod Feeds
