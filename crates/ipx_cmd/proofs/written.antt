-- Texts that grow and are written.
pub mod AddedOneAfterAnother
pub mod GrowsByItems
pub mod LinesOfServices
pub mod NoRoomForTheWhole
pub mod TextOfAnInternet
pub mod TextOfEvents
pub mod TextOfPackets
pub mod TextOfServiceAdvertising
pub mod TextOfTables
pub mod WrittenUpToAPlace
