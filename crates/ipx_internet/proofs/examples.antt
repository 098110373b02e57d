-- Worked examples: each is checked by computing it.
pub mod Branches
pub mod Directed
pub mod Heavy
pub mod Logs
pub mod Loops
pub mod Rings
pub mod Running
pub mod Segments
pub mod Settled
pub mod Waiting
pub mod Weights
pub mod Words
