pub mod Clauses
pub mod Closing
pub mod Connecting
pub mod Replies
pub mod Settling
pub mod Marking
pub mod Offers
