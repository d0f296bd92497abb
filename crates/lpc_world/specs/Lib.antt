pub mod Lent
pub mod Lends
pub mod Suspected
pub mod PortNames
pub mod Unreceived
