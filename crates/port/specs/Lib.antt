-- What a port holds, as document 01 has it under "Steps at the ports", "Registers" and "Numbers that say no".
pub mod Holds
pub mod Reading
pub mod Table
