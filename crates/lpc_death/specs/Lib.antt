pub mod Room
pub mod Dying
pub mod Ends
pub mod Sets
