-- What the module promises of every program of calls and polls, in reading order.
pub mod Program
pub mod Beginning
pub mod Demand3
pub mod Polls
pub mod Cards
pub mod Intervals
pub mod Alarms
pub mod Holds
pub mod Readings
pub mod EnergyHistory
pub mod History
pub mod Day
pub mod Evening
