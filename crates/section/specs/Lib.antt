-- Sections of a book, from document 01: what one is, when it is in order, and the search for a serial.
pub mod Sections
pub mod Inside
