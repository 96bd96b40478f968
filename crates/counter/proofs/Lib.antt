-- Laws of lines, and of what stock answers.
pub mod Laws
pub mod Said
