-- Deliveries in any order come to an end.
pub mod AnyOrderEnds
