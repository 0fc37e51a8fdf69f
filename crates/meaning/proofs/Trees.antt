-- Rows, trees and tests on them.
pub mod Tests
pub mod Parse
pub mod EachRow
pub mod ByKind
