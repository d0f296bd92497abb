pub mod Padded
pub mod Puts
pub mod Searching
