-- Worked examples: each is checked by computing it.
pub mod Competing
pub mod EndingPorts
pub mod FullTable
pub mod Sharing
pub mod Ways
