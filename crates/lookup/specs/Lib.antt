-- Lookup in the card book, from document 01; and what may be relied on.
pub mod Lookup
pub mod Promises
