-- Laws of the samples' loop.
pub mod Probes
pub mod Tallies
pub mod Turns
pub mod Decided
