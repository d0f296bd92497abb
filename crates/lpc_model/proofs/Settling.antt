-- The world settles behind each call: in how many turns, and what a turn keeps.
pub mod Steady
pub mod Loop
pub mod Turns
pub mod Settled
pub mod Keeps
pub mod Life
pub mod Lines
pub mod Deaths
