pub mod Sites
pub mod Going
pub mod Tries
pub mod Loops
