-- Laws and worked examples of the listing, and what its contract decides.
pub mod Lines
pub mod Walked
pub mod Walking
pub mod Examples
pub mod Decided
