-- the numbers of a tunnel whose server hands out nodes
pub mod Numbers
-- what a tunnel is told, and what a datagram says
pub mod Events
pub mod Says
-- who is a client, and who is remembered
pub mod Members
pub mod Tables
-- who gets what
pub mod Own
pub mod Receivers
-- a tunnel
pub mod Stands
-- what follows
pub mod Laws
