-- Worked examples: each is checked by computing it.
pub mod Answering
pub mod Claiming
pub mod Entering
pub mod Filtering
pub mod Numbering
pub mod Statics
pub mod Words
