-- Worked examples of the definitions.
pub mod Blocks
pub mod Carriers
pub mod Faults
pub mod Grammar
pub mod Words
