-- The record of a key: what offers and packets make of it.
pub mod ChangedWasOffered
pub mod HeardChangesItsKeys
pub mod KeptOrOffered
pub mod RecordsGained
