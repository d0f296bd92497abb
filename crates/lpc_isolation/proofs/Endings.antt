-- Threads and a process that end, in a view, part by part.
pub mod Parts
pub mod Deaths
pub mod Threads
pub mod Turns
pub mod Settled
pub mod Spared
pub mod Lasting
pub mod Dimmed
pub mod Guessed
pub mod Mixed
pub mod Sides
pub mod Runs
pub mod Settling
