pub mod Ahead
pub mod HeldLives
pub mod HeldPorts
pub mod Places
