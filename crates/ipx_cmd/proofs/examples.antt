-- Worked examples: each is checked by computing it.
pub mod Captures
pub mod Internets
pub mod Lines
pub mod Orders
pub mod Packets
pub mod Scripts
pub mod Texts
