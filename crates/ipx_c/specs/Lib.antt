-- sizes, and the numbers and structs that cross to C
pub mod Sizes
pub mod Codes
pub mod Values
-- events
pub mod Happens
-- making
pub mod Makes
-- packets out, and clearing
pub mod Copies
-- what is read of a router
pub mod Reads
-- frames
pub mod Kinds
-- packets that are written
pub mod Writes
-- words
pub mod Words
-- tunnels: structs, making, events, and what is read of them
pub mod TunnelValues
pub mod TunnelMakes
pub mod TunnelEvents
pub mod TunnelReads
-- tunnels with keyed nodes: the same
pub mod KeyedValues
pub mod KeyedMakes
pub mod KeyedEvents
pub mod KeyedReads
-- segments: the same
pub mod SegmentValues
pub mod SegmentMakes
pub mod SegmentEvents
pub mod SegmentReads
-- the plan of a reload: structs, and the call
pub mod PlanValues
pub mod Plans
-- the lines of a configuration: structs and numbers, and words that are written
pub mod SettingsValues
pub mod SettingsWritten
pub mod ConfigurationValues
-- what passes between a cable and the router; and rules of a filter
pub mod Edges
pub mod RuleValues
pub mod Statics
-- a gateway's limits: numbers
pub mod LimitValues
pub mod CableValues
-- the ways and fates of packets: numbers
pub mod CourseValues
pub mod CountValues
pub mod PeerValues
-- broadcasts that are copied to another network
pub mod Extends
-- nothing that a public contract says
pub mod inside
