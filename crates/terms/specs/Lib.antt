pub mod Tables
pub mod Masks
