-- Ports and the stations that hear them, and what one router more changes of an internet.
pub mod EachPortOnce
pub mod FewOnANetwork
pub mod IndexOfStations
pub mod InternetOfOneMore
pub mod MostOnANetwork
pub mod NodeIsTaken
pub mod OneReceiverOfANode
pub mod StationsOfOneMore
pub mod StationsThatHear
pub mod WithoutRouters
