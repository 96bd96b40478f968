-- Sag and surge, sample by sample, their start and their reset (document 02, A3).
pub mod Masks
pub mod Alarms
pub mod Starting
