-- What the law asks of a call's steps: one fact a file, of all calls.
pub mod Apart
pub mod Asked
pub mod Fair
pub mod Fine
pub mod Given
pub mod Known
pub mod Leads
pub mod Mapped
pub mod Orderly
pub mod Ours
pub mod Paths
pub mod Sent
pub mod Stands
pub mod Written
