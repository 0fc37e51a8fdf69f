pub mod Lists
pub mod Listing
pub mod Stored
pub mod Rules
