-- Adding a card to the book and withdrawing a serial, from document 01, and what is promised of them.
pub mod Change
pub mod Promises
