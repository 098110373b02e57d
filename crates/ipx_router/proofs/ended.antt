-- What ended with a second, or with a port that goes down, among what is advertised.
pub mod ChangedIsEnded
pub mod EndedPageByPage
pub mod EndedRises
pub mod SentIsOfEnded
