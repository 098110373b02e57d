-- What docs/SCRIPTS.md explains.
-- a line and its words
pub mod Lines
pub mod Words
pub mod Line
-- ports, routers, and what is wrong with them
pub mod Making
pub mod PortWord
pub mod Fault
-- what a line asks for
pub mod CommandMeaning
pub mod Script
pub mod OrderMeaning
pub mod OrderLine
-- what is written
pub mod ServiceWords
pub mod Output
pub mod EventText
pub mod TableText
pub mod InternetText
-- what a line does
pub mod Machine
pub mod InternetMachine
-- the text of a script
pub mod Playing
pub mod Replayed
pub mod Simulated
-- what a run leaves
pub mod WroteFront
pub mod Played
pub mod Continues
-- the program
pub mod Chosen
pub mod Ended
-- What docs/CAPTURES.md explains.
-- words
pub mod KindWord
pub mod CrossedWord
pub mod CaptureWord
-- a packet's lines, and a record's
pub mod CrossedText
pub mod RipText
pub mod SapText
pub mod PacketText
pub mod RecordText
pub mod RecordedText
-- the text of a capture, and what a run leaves
pub mod Shown
pub mod Decoded
-- nothing that a public contract says
pub mod inside
