-- Bytes, and what is read from them and written to them.
pub mod EntriesReadAreThoseWritten
pub mod FieldsAreBytes
pub mod LawsOfLayouts
pub mod ListsOfBytes
pub mod ReadInOneWay
pub mod SentIsBytes
