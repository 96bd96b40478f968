-- One interval, as document 01 has it under "From samples to an interval", with A1, A2 and A5 of document 02: its close, and the whole of it.
pub mod Close
pub mod Whole
pub mod Rms
pub mod NoLoad
pub mod Clipping
pub mod History
pub mod Figures
pub mod Split
