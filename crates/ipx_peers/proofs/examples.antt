-- Worked examples: each is checked by computing it.
pub mod Windows
pub mod Places
