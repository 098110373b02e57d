-- Ports: the values of one, and the port of each number.
pub mod NoTwoOnOneNetwork
pub mod PortOfEachNumber
pub mod PortOrFault
