-- numbers, and words between blanks
pub mod Digits
pub mod Parts
-- parts between others
pub mod Cuts
pub mod Gaps
-- what is written
pub mod Decimals
pub mod Without
pub mod NumbersAgain
pub mod SixAgain
pub mod AddressesAgain
pub mod Spaces
pub mod NamesAgain
pub mod WordsAgain
pub mod LinksAgain
pub mod DigitsAgain
pub mod RulesAgain
pub mod StaticsAgain
pub mod LinesAgain
pub mod ListsAgain
pub mod AddressesRight
pub mod LinksRight
pub mod RulesRight
pub mod NodesRight
pub mod StaticsRight
pub mod LinesRight
-- laws
pub mod Begun
pub mod Endings
pub mod FirstWrong
-- examples
pub mod examples
