-- Samples into intervals, as document 01 has it: the start, the card that comes into force, a block; and the alarms beside them.
pub mod Starting
pub mod Core
pub mod Blocks
pub mod Inside
