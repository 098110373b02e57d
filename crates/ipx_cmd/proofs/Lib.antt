pub mod acts
pub mod bytes
pub mod captures
pub mod cuts
pub mod examples
pub mod recordings
pub mod written
