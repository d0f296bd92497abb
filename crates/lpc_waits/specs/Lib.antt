pub mod Kept
pub mod Layout
pub mod Lent
pub mod Numbers
pub mod Sought
pub mod Table
pub mod Walk
