-- Ticks that can be had, and that pass in memory.
pub mod SecondIsATick
pub mod TickCanBeHad
