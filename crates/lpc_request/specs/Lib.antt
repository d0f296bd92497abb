pub mod Called
pub mod Replied
pub mod Sent
