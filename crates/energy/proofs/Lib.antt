-- Laws of energy.
pub mod Buckets
pub mod Decided
