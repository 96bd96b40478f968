-- Laws of serials that other proofs cite, and what the contracts decide.
pub mod Every
pub mod Texts
pub mod Places
pub mod Serials
pub mod Examples
pub mod Decided
