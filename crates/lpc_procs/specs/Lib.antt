pub mod Callers
pub mod Kept
pub mod Members
pub mod Procs
pub mod Tags
