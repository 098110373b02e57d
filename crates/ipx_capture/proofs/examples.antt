-- Worked examples: each is checked by computing it.
pub mod CutFiles
pub mod Frames
pub mod Headers
pub mod OneRecord
pub mod Questions
pub mod Words
