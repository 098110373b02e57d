mod Boxed
mod Copied
mod Crossing
mod Filled
mod FirstBad
mod Placed
mod Planned
mod Sent
mod Unmade
pub mod examples
