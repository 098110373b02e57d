-- Nothing goes back where it was learned, and nothing out of a port that is down.
pub mod DownNetworksUnreachable
pub mod NoEntryGoesBack
pub mod NoEventSendsBack
pub mod NoPacketGoesBack
pub mod NothingOnDownPorts
