pub mod Chances
pub mod Turns
