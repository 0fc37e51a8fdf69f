-- The rules, the check and what is put for names.
pub mod FirstBad
pub mod TypeTrees
pub mod PaperRules
pub mod Putting
pub mod GroundValues
