-- Worked examples: each is checked by computing it.
pub mod Cables
pub mod Packets
pub mod Stations
