pub mod Changes
pub mod Rows
pub mod Searching
pub mod Values
