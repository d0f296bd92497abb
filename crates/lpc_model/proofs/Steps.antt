-- What steps do to rows, for all laws: in turn, to handles and registrations, closing, dying, ending, the sweep.
pub mod InTurn
pub mod Rows
pub mod Registrations
pub mod Handles
pub mod Sweep
pub mod Closing
pub mod Dying
pub mod Ending
pub mod Steady
