pub mod Views
pub mod Mapping
pub mod Parts
pub mod Lends
