-- the numbers of a tunnel, and the nodes that stand for places
pub mod Numbers
pub mod Places
-- what a tunnel is told, and what a datagram says
pub mod Events
pub mod Says
-- who is a client
pub mod Clients
-- who gets what
pub mod Own
pub mod Receivers
-- copies for other networks
pub mod Extend
-- a tunnel
pub mod Stands
-- what follows
pub mod Laws
-- nothing that a public contract says
pub mod inside
