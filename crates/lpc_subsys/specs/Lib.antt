pub mod Clients
pub mod Laws
pub mod Profile
pub mod Replies
pub mod Requests
