-- Messages are accounted for: each stands in its queue, was received, or was lost with the queue's port.
pub mod OwnCalls
pub mod PlainConnects
pub mod Balance
pub mod DryQueues
pub mod Steps
pub mod Lines
pub mod Runs
