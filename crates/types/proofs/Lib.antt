pub mod Laws
pub mod Checks
pub mod GroundLaws
pub mod ChainLaws
pub mod BadLaws
pub mod Rules
