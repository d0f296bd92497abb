pub mod Events
pub mod Kept
pub mod Refused
pub mod Rows
pub mod Small
pub mod Texts
