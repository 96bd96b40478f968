-- Laws of the names' tables, and what the contracts decide.
pub mod Whole
pub mod Decided
