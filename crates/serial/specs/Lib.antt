-- What a serial is, from document 01; and texts, tests over a count and parts of a list, which every part above cites.
pub mod Ascii
pub mod Every
pub mod Texts
pub mod Places
pub mod Serials
