pub mod Bits
pub mod Rights
pub mod Numbers
pub mod Spelled
