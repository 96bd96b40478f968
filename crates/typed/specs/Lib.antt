-- A number as it is typed.
pub mod Values
