-- Numbers
pub mod Numbers
-- Port
pub mod Port
-- History
pub mod History
pub mod Happened
-- Outgoing
pub mod Outgoing
-- Why
pub mod Why
pub mod Checks
pub mod WhyWord
-- Heard
pub mod Heard
-- Routes, Services
pub mod Routes
pub mod Services
-- Facts
pub mod Facts
-- Sorted
pub mod Sorted
-- Told
pub mod Told
-- Changes, News
pub mod Changes
pub mod News
-- Pages
pub mod Pages
-- Relays
pub mod Relays
pub mod Relay
-- Sends
pub mod Sends
-- Packets, Horizon
pub mod Packets
pub mod Horizon
-- Outcomes
pub mod Outcomes
pub mod OutcomeWord
-- Bounds, Needs, Outbox
pub mod Bounds
pub mod Needs
pub mod Outbox
pub mod Slots
-- Stands, RouterOf, Shares
pub mod Stands
pub mod RouterOf
pub mod Shares
-- nothing that a public contract says
pub mod inside
