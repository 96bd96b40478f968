-- What the counter makes of the words of its command line and of what stock answers, and the lines that it prints.
pub mod Orders
pub mod Lines
pub mod Asked
