-- What ports keep from line to line.
pub mod Steps
pub mod Lines
pub mod Cuts
pub mod Kept
