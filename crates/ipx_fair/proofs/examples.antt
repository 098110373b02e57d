-- Worked examples: each is checked by computing it.
pub mod Receivers
pub mod Times
pub mod Packets
pub mod Runs
pub mod Meters
