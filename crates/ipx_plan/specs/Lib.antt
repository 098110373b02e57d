-- what carries links, and when two are alike
pub mod Carriers
pub mod Likeness
-- which link continues which
pub mod Pairing
-- what becomes of cables, of tunnels, and of the router
pub mod Cables
pub mod Tunnels
pub mod Routing
-- a plan
pub mod Planned
-- what follows
pub mod Laws
-- nothing that a public contract says
pub mod inside
