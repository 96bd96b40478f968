-- A port's desk, as document 01 has it under "Steps at the ports" and "Numbers that say no".
pub mod Desks
