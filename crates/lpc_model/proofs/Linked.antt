-- Ports are linked: births are single, pairs are of each other, and what ports and names lead to stands.
pub mod Steps
pub mod Joins
pub mod Calls
pub mod Close
pub mod Lines
