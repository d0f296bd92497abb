-- Views lie in their sections, and apart from each other.
pub mod Tables
pub mod Steps
pub mod Lines
pub mod Offers
