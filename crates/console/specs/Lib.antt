-- What the console's lines mean: reference/CONSOLE.md has the grammar in words.
pub mod Texts
pub mod Numbers
pub mod Items
pub mod Words
pub mod Unread
pub mod Turns
pub mod Inside
pub mod Answers
pub mod Session
pub mod Unchanged
pub mod Replies
