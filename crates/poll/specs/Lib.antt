-- What a packet is answered from a hold (document 02, A4).
pub mod Polls
pub mod Inside
