pub mod AsWritten
pub mod Trees
pub mod Bytes
pub mod Typing
pub mod Steps
pub mod Entries
pub mod Bench
