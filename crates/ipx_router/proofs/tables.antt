-- What the tables hold after a history: what was offered, by ports that are up, within capacities and shares.
pub mod FoundIsOfItsRecord
pub mod HeldBeforeOrNew
pub mod HeldCameByPortsUp
pub mod HeldFitsFields
pub mod HeldRises
pub mod HeldWasOffered
pub mod NoRouteToAPort
pub mod OffersOfAMessage
pub mod SharesHold
pub mod SharesThatFit
pub mod ToldRises
