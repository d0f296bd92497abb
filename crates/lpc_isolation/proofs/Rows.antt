-- What the rows of each world of a run keep.
pub mod Firm
pub mod Fair
pub mod Kept
pub mod Paths
pub mod Clients
pub mod Sent
pub mod Ways
pub mod Ids
pub mod Asked
pub mod Names
pub mod Bound
pub mod Bindings
pub mod NamesKept
pub mod Raisers
