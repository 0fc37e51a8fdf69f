-- Layouts, tables, records, files and letters against their bytes.
pub mod Layouts
pub mod RowTables
pub mod TypeTables
pub mod TypeRows
pub mod Records
pub mod Files
