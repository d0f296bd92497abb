-- What calls come to, for all laws: what their tests find (Usable, Tested, Creating, Raising), their outcomes (Outcomes), the acts
-- of which outcomes are made (Acts, Taking), and the lines that run them (Lines).
pub mod Holding
pub mod Usable
pub mod Creating
pub mod Tested
pub mod Taking
pub mod Offers
pub mod Sharing
pub mod Raising
pub mod Outcomes
pub mod Lines
pub mod Acts
