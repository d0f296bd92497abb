pub mod Lookups
pub mod Names
pub mod Nears
pub mod Recents
pub mod Tallies
