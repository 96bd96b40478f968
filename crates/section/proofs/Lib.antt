-- Laws of sections, and what the contracts decide.
pub mod Sections
pub mod Decided
