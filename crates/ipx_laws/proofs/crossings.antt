-- The tree of a propagated packet: its receptions are those of the paths that there are, each once.
pub mod EachPathOnce
pub mod OneForwardMore
pub mod PathsOfLevels
pub mod PlacesOfAPath
