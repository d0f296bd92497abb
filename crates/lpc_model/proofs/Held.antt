-- Some row counts for each object, behind each line: the sweep takes away all that no row counts for.
pub mod Events
pub mod Ports
pub mod Lives
pub mod FreedPort
pub mod FreedLife
pub mod Steps
pub mod Lines
