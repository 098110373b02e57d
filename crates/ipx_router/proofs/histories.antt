-- What one event more does to a history, to a router's state, and to what it stands for.
pub mod NewRouterStands
pub mod NothingDoneNothingChanged
pub mod OneEventMore
pub mod PortsUpOneEventMore
pub mod RouterOneEventMore
pub mod StandsOneEventMore
pub mod StateAfterEachEvent
