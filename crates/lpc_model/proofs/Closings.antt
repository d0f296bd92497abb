-- Closed ports are told of: by the steps that close them and by no other, once, and of ports that connects made.
pub mod Told
pub mod ToldLines
pub mod Single
pub mod SingleClose
pub mod SingleLines
pub mod Creators
