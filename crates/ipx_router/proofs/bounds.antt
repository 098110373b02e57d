-- How many packets an event sends at most and how long they are, and that there is room for them.
pub mod FewEntriesHeard
pub mod ItemsOfEachList
pub mod LengthOfWhatCame
pub mod LengthsOfWhatIsSent
pub mod PacketsOfAPacket
pub mod PacketsOfEachEvent
pub mod PacketsOfLocalEvents
pub mod RoomForEveryEvent
pub mod RoomIsEnough
pub mod StaysWithinBounds
