-- The names of documents 01 and 02: a card's fields and the registers.
pub mod Names
