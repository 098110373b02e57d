-- Gains: what is said is of real ways, so that each route is; and what is left of why tables are right at once.
pub mod GainsSayReal
pub mod MoreUpIsNoWorse
pub mod OwnPacketsSayReal
pub mod RealWhileGaining
pub mod RightFromTheFirst
pub mod RightWhenQuiet
