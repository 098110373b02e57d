-- Definitions that only clauses inside the crate and its proofs speak of: nobody needs to believe them.
pub mod EdgeLaws
