-- Worked examples of the definitions.
pub mod Line
pub mod Requests
pub mod Bursts
pub mod Sequenced
pub mod Named
pub mod Others
