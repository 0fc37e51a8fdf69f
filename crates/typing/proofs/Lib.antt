pub mod Faults
pub mod ByRow
pub mod Judging
pub mod Walking
pub mod Everywhere
