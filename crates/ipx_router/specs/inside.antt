-- Definitions that only clauses inside the crate and its proofs speak of: nobody needs to believe them.
pub mod CheckGroups
pub mod Ended
pub mod EndedSends
pub mod Envelope
pub mod Following
pub mod Judged
pub mod Owed
pub mod Putting
pub mod Received
pub mod Selection
pub mod Sources
pub mod ToldRoutes
pub mod Touched
pub mod Within
