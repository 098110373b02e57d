-- words, and what they write
pub mod Words
pub mod Numbers
pub mod Cutting
pub mod Hosts
pub mod Nodes
pub mod Names
pub mod Addresses
pub mod Links
pub mod Networks
pub mod Internals
pub mod Rules
pub mod Statics
pub mod Lines
-- what is written, and values that are read
pub mod Writing
pub mod WritingAddresses
pub mod WritingLinks
pub mod WritingLines
pub mod Right
pub mod RightLines
-- laws
pub mod Beginnings
