-- the numbers of places and datagrams
pub mod Numbers
-- which numbers are heard
pub mod Windows
-- what happens, what is known then, and what becomes of a datagram
pub mod Events
pub mod Places
pub mod States
-- what follows
pub mod Laws
-- how it lies in memory
pub mod Memory
-- what no public contract names
pub mod inside
