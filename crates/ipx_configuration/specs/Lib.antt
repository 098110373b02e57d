-- single links
pub mod Endpoints
pub mod Carriers
pub mod Said
pub mod Clashes
-- what lines say of them
pub mod Lines
pub mod Rules
pub mod Statics
pub mod Peers
pub mod Extends
-- all networks and links
pub mod Memory
pub mod Numbers
pub mod Internals
pub mod Configurations
pub mod Configured
-- laws
pub mod Wholes
