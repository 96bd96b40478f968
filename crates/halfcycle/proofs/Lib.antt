-- Laws of the window and the alarms.
pub mod Windows
pub mod Comparing
pub mod Parts
pub mod Tests
pub mod Fresh
pub mod Rings
pub mod Standing
pub mod History
pub mod Figures
pub mod Decided
