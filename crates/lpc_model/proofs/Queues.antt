-- Messages stand in queues of open ports, the oldest first.
pub mod Closing
pub mod Emptied
pub mod Withdrawn
pub mod Open
pub mod Order
