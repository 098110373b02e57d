-- Ticks, quiet or busy: how old what is held can be, what of it is real, and what ends.
pub mod AfterEachStep
pub mod AfterRest
pub mod EventOfOneRouter
pub mod FineOrSoonEnded
pub mod HarmlessWords
pub mod NoServiceInTicks
pub mod OwnPagesSayFine
pub mod RealFromTheFirst
pub mod RealOrSoonEnded
pub mod RoutesBecomeReal
pub mod SaidInAMinute
pub mod SaysFineOrSoonEnded
pub mod TickAfterTick
