-- Laws of the module: what its functions put together is what the definitions give, and each public contract decides its outcome.
pub mod Starts
pub mod Sides
pub mod Steps
pub mod Polls
pub mod Decided
