-- what becomes of packets, and why
pub mod Fates
-- what follows an answer
pub mod Steps
pub mod Routing
pub mod Frames
pub mod Words
pub mod Datagrams
-- whole ways
pub mod Courses
pub mod Walks
-- the conditions of each fate
pub mod Conditions
-- what is counted
pub mod Counting
-- what follows
pub mod Laws
