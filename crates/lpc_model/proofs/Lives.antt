-- What only lives have: handles, registrations, rows of their own; of a pair one port at least is open; and where nothing
-- lives nothing is left.
pub mod ThreadsOnce
pub mod HandleSteps
pub mod Handles
pub mod Registrations
pub mod SingleRegistrations
pub mod KeptPairs
pub mod Bare
