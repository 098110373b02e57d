pub mod Pairs
pub mod Ports
