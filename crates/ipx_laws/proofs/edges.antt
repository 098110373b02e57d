-- Edges: what they let in, and what holds of runs with them.
pub mod AsWithoutEdges
pub mod NumberedAreBytes
pub mod EdgesKeepRuns
pub mod SentOnChangesNoTable
