-- what payloads say
pub mod Ncp
pub mod Spx
pub mod NetBios
-- what a packet holds
pub mod Inside
-- names
pub mod Names
pub mod NcpName
-- the line
pub mod Fields
pub mod NcpText
pub mod SpxText
pub mod NetBiosText
pub mod InsideText
