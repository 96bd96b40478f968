-- What it is that a contract decides its outcome.
pub mod Determined
