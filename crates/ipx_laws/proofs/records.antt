-- The record of a key: what seconds and ports make of it, and how old it gets.
pub mod BestIsKept
pub mod KeysHaveRoom
pub mod OneFactOnARecord
pub mod RecordsGrowOld
pub mod SameSource
