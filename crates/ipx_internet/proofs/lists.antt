-- What holds of lists and of their elements, whatever they are.
pub mod EachElement
pub mod FoundInAList
pub mod HowManyPass
pub mod SortedByNumber
