-- What the contracts of this crate decide, and the laws that their proofs cite.
pub mod Fields
pub mod Reading
pub mod Decided
