-- The promises, proved.
pub mod Beginning
pub mod Turns
pub mod Polls
pub mod Demand3
pub mod Cards
pub mod Cuts
pub mod Wholes
pub mod Energy
pub mod History
pub mod Alarms
pub mod Holds
pub mod Readings
pub mod Day
pub mod Evening
