-- What the stock program in C gets.
pub mod Signed
pub mod Reading
