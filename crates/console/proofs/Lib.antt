-- Laws of the definitions, which the functions' proofs cite, and worked examples.
pub mod TextLaws
pub mod NumberLaws
pub mod ItemLaws
pub mod WordLaws
pub mod TurnLaws
pub mod AnswerLaws
pub mod SessionLaws
pub mod Unchanged
pub mod Replies
pub mod Examples
