-- Laws and worked examples of numbers in decimal.
pub mod Digits
pub mod Places
pub mod Shown
pub mod Examples
pub mod Decided
