-- Laws and theorems of the card that other proofs cite.
pub mod Fields
pub mod Examples
pub mod Decided
