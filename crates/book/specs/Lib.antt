-- The card book, from document 01: when it is well formed; and the answers of its parts.
pub mod Book
pub mod Answers
