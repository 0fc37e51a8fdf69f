pub mod Rule
pub mod Plan
pub mod Given
pub mod Halves
pub mod Behind
pub mod Once
pub mod Lists
pub mod Taking
