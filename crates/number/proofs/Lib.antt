-- The laws of the whole-number rules, and those that let proofs work with signed numbers.
pub mod Signed
pub mod Fits
pub mod Signs
pub mod Divisions
pub mod Decided
