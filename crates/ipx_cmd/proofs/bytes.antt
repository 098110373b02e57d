-- Digits, numbers and words in bytes.
pub mod DigitsTwoAtATime
pub mod FirstThatPasses
pub mod HexWords
pub mod Numbers
pub mod PairsOfHexDigits
pub mod PartsThatAreWords
pub mod TwoDigits
