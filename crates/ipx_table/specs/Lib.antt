-- what a table reads of an offer
pub mod Reading
-- facts, and which offers are accepted and alive
pub mod Facts
pub mod Accepted
pub mod Alive
-- shares
pub mod Shares
-- a table, and what it answers
pub mod Stands
pub mod Slots
pub mod Answers
pub mod Taken
pub mod TakenWord
-- nothing that a public contract says
pub mod inside
