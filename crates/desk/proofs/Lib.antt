-- Laws of a port's desk.
pub mod Writes
pub mod Finishing
pub mod Decided
