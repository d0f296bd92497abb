-- What a call comes to (Deeds, Doomed, Aims), what it owes (Calm, Laws), that each owes it (Services), and its line.
pub mod Serves
pub mod Lines
pub mod Deeds
pub mod Aims
pub mod Doomed
pub mod Laws
pub mod Calm
pub mod Services
