-- The closing of a port in a view, stage by stage.
pub mod Mild
pub mod Lone
pub mod Shown
pub mod Stages
pub mod Ends
pub mod Marks
pub mod Posts
pub mod Ports
