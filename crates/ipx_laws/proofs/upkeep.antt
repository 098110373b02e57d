-- What routers send while their tables stay as they are.
pub mod FewNetworks
pub mod NothingNewIsSent
pub mod OnceInAPeriod
pub mod SizeOfPages
pub mod TablesStayInTicks
pub mod TicksAreOfUpkeep
