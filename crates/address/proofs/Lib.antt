-- Laws of addresses.
pub mod Places
pub mod Rows
pub mod Slots
pub mod Decided
