pub mod Chains
pub mod Owing
pub mod ByKind
pub mod Seeing
pub mod OneKind
pub mod Places
pub mod Naming
pub mod Turning
