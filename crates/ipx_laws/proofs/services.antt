-- Services that hosts announce: what a router may know of them, and what it comes to know.
pub mod ExactWords
pub mod FewestHops
pub mod HeardByARouter
pub mod HostsApart
pub mod NearestHost
pub mod NearestIsAnswered
pub mod ServedOrSoonEnded
pub mod ServiceIsTold
pub mod ServicesBecomeReal
pub mod SpokenByARouter
pub mod SpokenOfAServer
