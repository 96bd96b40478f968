-- Laws of the meter.
pub mod Sound
pub mod Stretches
pub mod Keeping
pub mod Watched
pub mod Ways
pub mod Agreement
pub mod Starts
pub mod Decided
