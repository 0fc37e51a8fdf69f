pub mod Rows
pub mod Trees
pub mod Copies
pub mod Verdicts
pub mod Records
pub mod Rules
