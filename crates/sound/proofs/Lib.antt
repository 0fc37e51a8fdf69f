pub mod Laws
pub mod HeadLaws
pub mod Parts
pub mod Rules
