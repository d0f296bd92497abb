pub mod Clauses
pub mod Sweeping
