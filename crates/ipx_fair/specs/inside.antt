-- how a receiver is counted
pub mod Held
