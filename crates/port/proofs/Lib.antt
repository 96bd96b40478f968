-- Laws of what a port holds, and the register table.
pub mod Registers
pub mod Rows
pub mod Decided
pub mod Table
