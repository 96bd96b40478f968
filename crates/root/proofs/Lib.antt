-- Laws of the root.
pub mod Roots
pub mod Decided
