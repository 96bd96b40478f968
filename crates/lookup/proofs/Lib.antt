-- Laws of lookup's answers, and its theorems.
pub mod Answers
pub mod Promises
pub mod Decided
pub mod Stands
