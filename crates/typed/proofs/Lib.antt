-- Laws of a number that is typed.
pub mod Laws
pub mod Decided
