pub mod Replies
pub mod Received
pub mod Registrations
