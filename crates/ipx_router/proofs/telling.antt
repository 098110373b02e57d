-- What is advertised on a port, item by item.
pub mod EachEntryHolds
pub mod FromTheFirstChosen
pub mod LawsOfTold
pub mod NearestInOnePass
pub mod NetworksAmongRoutes
pub mod NextRouteTold
pub mod NextServiceSent
pub mod NextServiceTold
pub mod SentOfTold
pub mod ToldFitsFields
