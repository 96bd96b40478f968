-- Laws of the registers' rules.
pub mod Bounds
pub mod Places
pub mod Rms
pub mod NoLoad
pub mod Decided
