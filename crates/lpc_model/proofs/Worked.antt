-- Scripts that were worked by hand: the definitions compute their transcripts.
pub mod Transcripts
pub mod Connections
pub mod Closings
pub mod Endings
pub mod Creations
pub mod Views
pub mod Ranges
pub mod Residents
pub mod Offers
pub mod Neighbours
pub mod Tokens
pub mod Exceptions
