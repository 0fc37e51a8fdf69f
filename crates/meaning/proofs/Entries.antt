-- Load, run and reply; histories.
pub mod Chain
pub mod InOrder
pub mod Refusals
pub mod Running
pub mod Loading
pub mod OpenList
pub mod Replying
pub mod PaperTyped
pub mod GoodStays
pub mod OnGoodStates
pub mod Alive
pub mod Paths
pub mod Histories
pub mod SettledOnce
pub mod Reports
pub mod Letters
