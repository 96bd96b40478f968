-- The listing of a card book, from document 01, "The listing".
pub mod Lines
pub mod Buffer
