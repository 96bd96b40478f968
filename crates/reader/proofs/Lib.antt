-- The walk through a book, and what its contracts decide.
pub mod Steps
pub mod Ahead
pub mod Promise
pub mod Decided
