pub mod ByForm
pub mod ByRule
pub mod ByPart
pub mod Finding
pub mod Fixed
