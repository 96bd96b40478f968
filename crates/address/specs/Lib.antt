-- The register table and its addresses, as document 01 has them under "Registers" and document 02 under A5, and the slots that track.
pub mod Addresses
pub mod Slots
