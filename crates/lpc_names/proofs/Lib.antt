pub mod Paths
pub mod Walks
pub mod Shown
pub mod Named
pub mod Bound
pub mod Mapped
