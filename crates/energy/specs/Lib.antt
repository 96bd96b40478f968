-- Energy, as document 01 has it under "From samples to an interval": one direction's count and remainder.
pub mod Energies
