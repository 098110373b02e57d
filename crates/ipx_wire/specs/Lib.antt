-- bytes
pub mod Piece
pub mod Items
pub mod Put
-- header and packet
pub mod Numbers
pub mod Address
pub mod Header
pub mod Packet
-- routing information
pub mod Rip
-- service advertising
pub mod Name
pub mod SapEntries
pub mod Sap
-- propagation
pub mod Crossed
-- the numbers behind a fault
pub mod Measure
-- packets that are sent on
pub mod Forward
-- packets of a router's own
pub mod Write
pub mod WriteServices
-- digits and words
pub mod Digits
pub mod AddressWord
pub mod NameWord
-- the two ends of a run
pub mod Ends
-- nothing that a public contract says
pub mod inside
