mod Search
mod Removal
pub mod Mapped
mod Lent
mod Ends
