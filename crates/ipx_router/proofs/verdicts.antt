-- What is judged of a packet is what the definitions say of its bytes.
pub mod ChecksOfEachKind
pub mod EffectOfWhatCame
pub mod FoundIsDefined
pub mod HeardIsAsLayoutsAllow
pub mod HeardPassesAllChecks
pub mod SentOnPassesChecks
