-- Where outsiders speak: routers of other makers, and hosts that advertise networks as routers do.
pub mod PortsOfOutsiders
pub mod RoutesHaveWays
pub mod TicksWithOutsiders
