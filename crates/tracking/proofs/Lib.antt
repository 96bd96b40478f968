-- Laws of the tracked slots.
pub mod Slots
pub mod Furthest
pub mod Decided
