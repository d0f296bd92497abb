-- The play of a run from the inputs alone, and the law on the run whose rows never go.
pub mod Play
pub mod Lines
pub mod Residents
pub mod Directives
pub mod Stands
pub mod Nexts
pub mod Housed
pub mod Due
pub mod Speaks
pub mod Fails
pub mod Settles
pub mod Behind
pub mod Keeps
pub mod BareLaw
