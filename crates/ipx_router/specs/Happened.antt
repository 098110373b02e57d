-- What happened, of an event that is given to a router: its bytes in place of where they lie.
use Rattle.ipx_router.specs.History.{Event, Start, Stop, Second, Packet, PortDown, PortUp}
use Rattle.ipx_router.specs.declared.event.Event.{Event as Given}
use Rattle.ipx_router.specs.declared.event.Event.TheVariants.{Start as GivenStart, Stop as GivenStop, Second as GivenSecond, Packet as GivenPacket, PortDown as GivenPortDown, PortUp as GivenPortUp}

abbrev pub happened : Given → Event
happened GivenStart = Start
happened GivenStop = Stop
happened GivenSecond = Second
happened (GivenPacket port bytes) = Packet port bytes.now
happened (GivenPortDown port) = PortDown port
happened (GivenPortUp port) = PortUp port
