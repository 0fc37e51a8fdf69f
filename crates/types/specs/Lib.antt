pub mod Table
pub mod Chains
