-- what all receivers that hear a packet count
pub mod Several
-- which queue a speaker has
pub mod Queues
-- the limits of a network
pub mod Numbers
pub mod Limits
-- what becomes of packets
pub mod Nodes
pub mod Kinds
pub mod Deciding
pub mod Receiving
pub mod Strangers
-- a narrow line
pub mod LineParts
pub mod LineMembers
pub mod LineRoom
-- what follows
pub mod Metered
pub mod ClientEvents
pub mod LineLaws
