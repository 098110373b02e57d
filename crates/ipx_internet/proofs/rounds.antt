-- Rounds: all that waits is delivered, until after some rounds nothing waits.
pub mod ChangesAreOneHopMore
pub mod FewDeliveriesARound
pub mod NoMoreHolders
pub mod OneHolderLessARound
pub mod OneHopMoreARound
pub mod OneRound
pub mod QuietAfterRounds
pub mod QuietSooner
pub mod RepliesAfterOneRound
pub mod RepliesTellChanges
pub mod SentOnRunsOut
