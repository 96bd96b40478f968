-- How two clauses that state facts are used.
pub mod Facts
