-- What an internet weighs, and how that is counted: each delivery makes it lighter, so deliveries come to an end.
pub mod AnswersWeighLess
pub mod ChangesWeighPerHearer
pub mod CountedUpToAWord
pub mod EachMakesLighter
pub mod EntriesWeighEnough
pub mod HeardMakesLighter
pub mod HeardPaysItsChanges
pub mod HeardWeighsEnough
pub mod OffersPayTheirCost
pub mod PagesAtEitherProcess
pub mod PagesAtTheirProcess
pub mod PagesWeighTheirItems
pub mod SentOnMakesLighter
pub mod WeighedOneByOne
pub mod WeightOfHistories
