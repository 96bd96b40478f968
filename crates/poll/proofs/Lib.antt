-- Laws of the registers that a packet gathers, and of the reply.
pub mod Registers
pub mod Gathers
pub mod Putting
pub mod Replying
pub mod Sending
pub mod Answering
pub mod Decided
