pub mod Path
pub mod Walk
pub mod Binding
pub mod Faults
pub mod Kept
pub mod Laws
pub mod Mapped
