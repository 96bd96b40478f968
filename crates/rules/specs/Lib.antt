-- The registers' rules, as document 01 and A1 of document 02 have them at the close of an interval.
pub mod Rules
pub mod Source
pub mod Rms
