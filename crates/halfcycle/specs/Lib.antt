-- The half cycle: voltages, the alarms that they make, and what these mean (document 02, A3).
pub mod Passing
pub mod Inside
pub mod History
pub mod Figures
