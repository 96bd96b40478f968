-- The root, rounded down.
pub mod Root
