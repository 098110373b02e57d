-- Worked examples: each is checked by computing it.
pub mod CrossedLists
pub mod DamagedPackets
pub mod DamagedRip
pub mod FiftyEntries
pub mod GeneralRequest
pub mod IgnoredBytes
pub mod OwnPackets
pub mod Response
pub mod SentOn
pub mod ServiceNames
pub mod ServiceQueries
pub mod ServiceResponses
pub mod Words
