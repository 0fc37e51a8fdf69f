-- What a step does.
pub mod Preservation
pub mod Progress
pub mod FreeOrder
pub mod RowsStand
pub mod Sends
pub mod EachRowKept
