-- A program's calls of the module: the ports as crate `steps` has them, each call with its step and what it returns, and what a poll counts as.
pub mod Told
pub mod Ports
pub mod Calls
pub mod Turns
pub mod Counting
