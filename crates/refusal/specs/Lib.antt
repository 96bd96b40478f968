-- The refusals: their numbers, and their words for people who meet a number.
pub mod Numbers
pub mod Words
