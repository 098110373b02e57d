-- Worked examples: each is checked by computing it, or follows from the definitions alone.
pub mod Delivered
pub mod FilterRules
pub mod RoomKept
pub mod WrittenPackets
pub mod ConfiguredRules
pub mod ConfiguredStatics
