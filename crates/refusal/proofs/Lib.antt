-- Laws of the refusals' words, and what the contract decides.
pub mod Rows
pub mod Numbers
pub mod Decided
