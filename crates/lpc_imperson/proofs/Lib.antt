pub mod Allowed
pub mod Impersonated
pub mod Opened
pub mod ServedClients
