-- The two current sources of a split-phase board, as A5 of document 02 has them.
pub mod Sources
pub mod Figures
