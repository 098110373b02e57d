-- Losses: what is lost is said, so that in the end each route is of a real way.
pub mod EachLossIsSaid
pub mod HeldFromOthers
pub mod LossIsSaid
pub mod LossesGoOn
pub mod RealAfterLosses
pub mod TablesShrink
pub mod TableIsAdvertised
pub mod WordsThatWait
