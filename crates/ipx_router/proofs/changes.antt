-- What an event changes of a table, as it is noted and compared, and how the changes are advertised.
pub mod ChangesFitFields
pub mod DiffersByOneFact
pub mod EqualOffersAreOne
pub mod KeysThatDiffer
pub mod LearnedEntryByEntry
pub mod ListedForEachPort
pub mod NotedAgain
pub mod NotedInPlace
pub mod RenewedInPlace
pub mod TouchedGivesAllChanges
