-- What is sent on of packets is what the relations say.
pub mod AskedFits
pub mod AskedIsRelated
pub mod ListedIsRelated
pub mod PortsRise
pub mod RelatedIsListed
