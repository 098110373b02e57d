-- Worked examples: each is checked by computing it.
pub mod Links
pub mod Plans
