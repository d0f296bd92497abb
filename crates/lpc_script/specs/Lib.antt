pub mod Worked
pub mod Front
pub mod Feeding
pub mod Entries
pub mod Heads
