pub mod Condition
pub mod Growth
pub mod Memory
pub mod Settled
pub mod Short
pub mod Turning
pub mod Unsettling
