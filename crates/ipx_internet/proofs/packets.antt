-- What packets say: those that are sent on, a router's own, and what is read of them.
pub mod AdvertisedIsHeld
pub mod ForwardsDiffer
pub mod NearestIsOneOfThem
pub mod PagesReadAgain
pub mod ResponsesAskNothing
pub mod SentOnIsBytes
pub mod SentOnOrReply
pub mod SentOnReadAgain
