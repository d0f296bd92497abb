pub mod Accepted
pub mod Created
pub mod Completed
pub mod Drawn
pub mod Shared
pub mod Mapped
pub mod Begun
pub mod Lacking
