-- Tracking, as document 01 has it under "From samples to an interval".
pub mod Tracking
