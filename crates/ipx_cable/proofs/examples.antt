-- Worked examples: each is checked by computing it.
pub mod Kinds
pub mod Loops
pub mod Ranges
pub mod Paces
