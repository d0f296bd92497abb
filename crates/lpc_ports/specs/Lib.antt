pub mod Table
pub mod Lent
pub mod Layout
pub mod Totals
pub mod Names
pub mod Kept
pub mod Walk
