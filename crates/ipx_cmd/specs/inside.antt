-- Definitions that only clauses inside the crate and its proofs speak of: nobody needs to believe them.
pub mod Acted
pub mod Drafted
pub mod InternetStands
pub mod Leads
pub mod MachineStands
pub mod Moved
pub mod Recording
pub mod Said
pub mod Stretch
