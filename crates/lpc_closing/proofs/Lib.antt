pub mod Posted
pub mod HandlesKept
pub mod FreshClosings
pub mod Paid
pub mod Turns
pub mod Five
pub mod Lives
