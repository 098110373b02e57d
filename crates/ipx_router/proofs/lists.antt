-- What holds of lists, whatever stands in them.
pub mod CountOfPages
pub mod EachElement
pub mod FoundWherePut
pub mod ItemsOfPages
pub mod KeysInLists
pub mod NextOfTwoSources
pub mod PutInOrder
