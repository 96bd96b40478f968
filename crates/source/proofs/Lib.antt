-- Laws of the sources.
pub mod Figures
pub mod Blends
pub mod Decided
