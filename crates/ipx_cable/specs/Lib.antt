-- stations, and the places where a few of them stand
pub mod Stations
-- kinds of frames
pub mod Kinds
-- what a link heard
pub mod History
-- what follows
pub mod Laws
-- links that are one cable
pub mod Loops
pub mod Probing
-- addresses that begin with the same bits
pub mod Ranges
-- what goes out one by one
pub mod Paces
pub mod Pacing
-- two machines with one node
pub mod Twins
pub mod Watching
-- who is asked again
pub mod Asking
pub mod Questions
-- the gateway's own node
pub mod OwnNodes
