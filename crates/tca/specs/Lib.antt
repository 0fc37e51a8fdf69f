pub mod Loads
pub mod Replies
pub mod Runs
