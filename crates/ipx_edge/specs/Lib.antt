-- places of a packet, and changes there
pub mod Places
-- the network's number
pub mod Numbered
-- what comes in
pub mod Entered
-- what passes
pub mod Rules
pub mod Filtered
-- what is told of others on the cable, and left out for them
pub mod Claimed
pub mod Needless
-- what is said in the name of others
pub mod Statics
-- what follows
pub mod Laws
-- nothing that a public contract says
pub mod inside
