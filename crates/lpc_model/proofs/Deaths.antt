-- Threads that end are told of, once on each port that they registered.
pub mod Deathless
pub mod Doomed
pub mod Order
pub mod Lines
