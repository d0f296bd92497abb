pub mod Spelling
pub mod Laws
pub mod Access
pub mod WellKnown
