-- Laws of samples.
pub mod Corrections
pub mod Mixing
pub mod Clipped
pub mod Ranges
pub mod Rooms
pub mod Slices
pub mod Tests
pub mod Figures
pub mod Decided
