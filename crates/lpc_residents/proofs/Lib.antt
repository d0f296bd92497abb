mod Clients
mod Gained
mod Heard
pub mod Kept
mod Maps
mod Outcomes
mod Places
mod Rows
mod Told
mod Turns
