-- Laws of a card's bytes as they are written, and that they are read back.
pub mod Cards
pub mod RoundTrip
pub mod Decided
