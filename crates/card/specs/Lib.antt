-- What a card is, from document 01: its fields and their ranges, and its 37 bytes.
pub mod Fields
pub mod Cards
