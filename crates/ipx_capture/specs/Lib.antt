-- numbers, the header of a file, its records
pub mod Order
pub mod Header
pub mod Records
-- frames, read and written
pub mod Frame
pub mod Framed
pub mod Written
-- what is asked for, and kept
pub mod Reads
pub mod Asks
pub mod Window
-- what a call does
pub mod Place
pub mod Given
pub mod Calls
-- nothing that a public contract says
pub mod inside
