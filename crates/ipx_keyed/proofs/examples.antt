-- Worked examples: each is checked by computing it.
pub mod Coming
pub mod Players
pub mod Remembering
pub mod Speaking
pub mod Waiting
