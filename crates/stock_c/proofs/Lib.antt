-- What the contracts of this crate decide.
pub mod Decided
