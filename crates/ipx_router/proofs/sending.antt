-- Packets that are put into an outbox, and what packets an event sends.
pub mod OneAfterAnother
pub mod OnePacketMore
pub mod OwnPacketsAreValid
pub mod PacketsOfTheirKind
pub mod PageByPage
pub mod PageOfServices
pub mod PagesFilledFirst
pub mod PortByPort
pub mod RoomForServices
pub mod SentAfterAnyHistory
pub mod ServicesInPlace
