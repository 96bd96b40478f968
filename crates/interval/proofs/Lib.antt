-- Laws of one interval.
pub mod Directions
pub mod Wholes
pub mod Rms
pub mod NoLoad
pub mod Clipping
pub mod Histories
pub mod Tabled
pub mod Decided
