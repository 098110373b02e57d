-- Worked examples: each is checked by computing it.
pub mod Links
pub mod Web
pub mod Peers
pub mod Nodes
pub mod Internal
pub mod Adopt
pub mod Rules
pub mod Statics
