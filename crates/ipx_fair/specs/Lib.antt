-- the numbers of a receiver, and its queues
pub mod Numbers
pub mod Queues
pub mod States
-- what happens to them
pub mod Serving
pub mod Hearing
pub mod Events
-- what follows
pub mod Keeping
pub mod Laws
-- a limit for one speaker
pub mod Meters
-- how a receiver is kept in memory
pub mod Tallies
-- what no public contract names
pub mod inside
