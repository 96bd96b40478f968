-- Laws of the range and of clipping.
pub mod Ranges
pub mod Decided
