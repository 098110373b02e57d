-- How the bytes of a script are cut into lines and pieces, and what stands behind them.
pub mod BetweenTwoLines
pub mod BetweenTwoPieces
pub mod BytesBehindAScript
pub mod BytesBehindLines
pub mod LastLine
pub mod LedToByBytes
pub mod LinesOfBytes
pub mod StretchBehindStretch
pub mod TextOfAPiece
pub mod WaysOut
pub mod WhyAStretchEnds
