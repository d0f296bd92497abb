pub mod Named
pub mod Near
pub mod Numbered
pub mod Recent
pub mod Tally
