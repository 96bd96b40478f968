-- Laws of the book's definitions.
pub mod Sections
pub mod Answers
pub mod Decided
