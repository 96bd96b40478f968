-- The bench reader: a walk through a book.
pub mod Walk
pub mod Promise
