-- Samples that join the sums, one after another.
pub mod Inside
