-- What the contracts of the module's methods allow, that it is what the steps of crate `steps` do, and that a poll counts as its hold and its reads.
pub mod Soundness
pub mod Contracts
pub mod Ran
pub mod Told
pub mod Agreement
pub mod Counting
