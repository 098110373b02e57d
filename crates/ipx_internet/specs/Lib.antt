-- Internet, Delivery
pub mod Internet
pub mod Delivery
-- Log
pub mod Log
-- Course, path
pub mod Course
pub mod Different
-- Queue, Run
pub mod Queue
pub mod Run
-- Tree, Most
pub mod Tree
pub mod Most
-- Weight
pub mod Weight
-- Rounds
pub mod Rounds
-- InternetWeight
pub mod InternetWeight
-- Ticks, busy or not
pub mod Ticks
pub mod BusyTick
-- Moment, Settled, Refused
pub mod Batches
pub mod Moment
pub mod Settled
pub mod Passed
pub mod Refused
-- Traced
pub mod Traced
pub mod Listed
pub mod TraceRoom
-- nothing that a public contract says
pub mod inside
