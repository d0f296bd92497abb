-- What is known from the inputs: at which port a member received an outsider's connect, and the bytes of sections.
pub mod Heard
pub mod Knows
pub mod Receptions
pub mod Calls
pub mod Lines
pub mod Bytes
pub mod ByteLines
pub mod ViewLines
pub mod Settling
