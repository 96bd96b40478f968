-- The 24-bit range, as document 01 has it under "What the module covers".
pub mod Range
