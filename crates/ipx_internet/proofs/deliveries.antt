-- Events and deliveries, one after the other: what each does to the routers and to what waits.
pub mod AllThatWaitsStands
pub mod BatchPacketByPacket
pub mod FewDeliveriesAnEvent
pub mod FirstIsHandedOut
pub mod HistoriesOfRouters
pub mod OtherRoutersStay
pub mod PortsAtANumber
pub mod QueueOfARun
pub mod SettledOneByOne
pub mod WaitsAfterDelivery
