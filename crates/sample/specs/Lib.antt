-- Samples, as document 01 has them under "From samples to an interval", 2 and 3, with A2 and A5 of document 02; and the sums that an interval keeps of them.
pub mod Fields
pub mod Sample
pub mod Sums
pub mod Inside
pub mod Figures
