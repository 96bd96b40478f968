-- Laws of the changes, and the theorems: what stands in the book after one.
pub mod Answers
pub mod Entry
pub mod Grown
pub mod Changes
pub mod Promises
pub mod Decided
pub mod Present
