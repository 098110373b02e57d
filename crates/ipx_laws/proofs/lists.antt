-- What holds of lists and of their elements, whatever they are.
pub mod EachOnce
pub mod FirstAndRest
pub mod SameElementsInOrder
pub mod SomeElement
