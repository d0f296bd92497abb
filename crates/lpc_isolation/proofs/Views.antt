-- What a group sees of a world: the view, what each basic step does to it, and what its own calls and an outsider's find there.
pub mod Alone
pub mod Filters
pub mod View
pub mod Marks
pub mod Basics
pub mod Seen
pub mod Places
pub mod Apart
pub mod Callers
pub mod Mine
pub mod Bytes
pub mod Reads
