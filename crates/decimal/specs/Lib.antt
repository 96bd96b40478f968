-- Whole numbers in decimal, as bytes of text.
pub mod Decimals
