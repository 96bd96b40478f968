-- Laws of the start.
pub mod Starts
pub mod Decided
