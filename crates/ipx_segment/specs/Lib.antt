-- the numbers of a segment, and nodes
pub mod Numbers
pub mod Nodes
-- what a segment is told
pub mod Events
-- what it knows
pub mod Links
pub mod Stations
-- who gets what
pub mod Receivers
-- a segment
pub mod Stands
-- what follows
pub mod Laws
