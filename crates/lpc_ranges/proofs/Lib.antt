pub mod Made
pub mod KeptRanges
