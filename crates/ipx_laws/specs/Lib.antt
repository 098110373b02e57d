-- AnyOrder
pub mod AnyOrder
-- Crossings
pub mod Crossings
-- Departure
pub mod Departure
-- Ups, Gone
pub mod Ups
pub mod Gone
-- Meanwhile
pub mod Meanwhile
-- Announces
pub mod Announces
-- Servers, HeardInTicks, Regular
pub mod Servers
pub mod HeardInTicks
pub mod Regular
-- Nearest
pub mod Nearest
-- Real
pub mod Real
-- Least
pub mod Least
-- Setting
pub mod Setting
-- Tables, Losses, Gains
pub mod Tables
pub mod Losses
pub mod Gains
-- Arriving
pub mod Arriving
-- Apart
pub mod Apart
-- Upkeep
pub mod Upkeep
-- Edges
pub mod Edges
-- Wires, WireAnnounces
pub mod Wires
pub mod WireAnnounces
-- InTime
pub mod InTime
-- WireRegular
pub mod WireRegular
-- Outsiders, OutsidersInTime
pub mod Outsiders
pub mod OutsidersInTime
-- inside
pub mod inside
