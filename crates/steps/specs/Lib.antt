-- Steps, runs and demand 3, in reading order.
pub mod Answers
pub mod Port
pub mod Parts
pub mod Module
pub mod Run
pub mod Shorter
pub mod Demand3
pub mod Tidy
pub mod History
pub mod Gauge
pub mod OneCard
pub mod Watching
pub mod Promise
pub mod Calls
