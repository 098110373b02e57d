-- Worked examples: each is checked by computing it.
pub mod Several
pub mod SharedQueues
pub mod Numbers
pub mod Kinds
pub mod Deciding
pub mod Receiving
pub mod Strangers
pub mod Line
