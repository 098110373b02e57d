use Rattle.ipx_router.proofs.relays.ListedIsRelated.{listed}
use Rattle.ipx_router.proofs.relays.RelatedIsListed.{all}
use Rattle.ipx_router.proofs.relays.PortsRise.{in_order, ups}
use Rattle.ipx_router.proofs.laws.relays.Goals as goal

pub returns-clause-listed : goal.returns-clause-listed
returns-clause-listed c ports up routes number bytes =
    listed c.readings.ensures.packet_read c.readings.ensures.crossed_read ports up routes number bytes

pub returns-clause-all : goal.returns-clause-all
returns-clause-all c ports up routes number bytes s are =
    all c.readings.ensures.packet_read c.readings.ensures.crossed_read ports up routes number bytes s are

pub returns-clause-in_order : goal.returns-clause-in_order
returns-clause-in_order c = in_order

pub returns-clause-ups : goal.returns-clause-ups
returns-clause-ups c = ups
