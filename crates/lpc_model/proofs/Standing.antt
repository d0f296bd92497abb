-- What rows name stands.
pub mod Steps
pub mod Lines
