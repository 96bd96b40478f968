-- The whole-number rules of document 01: each rule is a definition here, and the laws of proofs/ show that it is the rule.
pub mod Sign
pub mod Rounding
