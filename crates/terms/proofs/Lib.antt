pub mod ByKind
pub mod Scan
pub mod Bits
pub mod ByNumber
pub mod Rules
pub mod Faults
pub mod Walk
