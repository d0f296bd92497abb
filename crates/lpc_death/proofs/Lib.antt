pub mod Untelling
pub mod Aimed
pub mod CanEnd
pub mod Mute
pub mod OwnEnds
pub mod Registrations
pub mod Dead
pub mod Lives
pub mod Makes
mod Stands
mod Doomed
