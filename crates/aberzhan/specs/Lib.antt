-- The module, as document 01 has it under "Steps at the ports" and "Numbers that say no".
pub mod Module
pub mod Polling
pub mod Cards
pub mod Inside
