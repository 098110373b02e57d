use Rattle.ipx_internet.proofs.deliveries.QueueOfARun.{events, deliveries, many_deliveries}
use Rattle.ipx_internet.proofs.laws.runs.Goals as goal
use Rattle.ipx_internet.proofs.packets.ForwardsDiffer.{Routing}
use Rattle.ipx_internet.proofs.trees.RunIsALog.{listed}

-- the laws of routers
routing : goal.After-packets → Routing
routing c = record {
  listed = c.relays.ensures.listed;
  in_order = c.relays.ensures.in_order;
  ups = c.relays.ensures.ups;
  of_a_table = c.tables.ensures.of_a_table;
  routes_up = c.tables.ensures.routes_up;
  sent_bytes = c.packets.ensures.bytes;
}

pub returns-clause-listed : goal.returns-clause-listed
returns-clause-listed c net most_routes most_services histories steps is = listed net (routing c) is most_routes most_services histories steps

pub returns-clause-events : goal.returns-clause-events
returns-clause-events c = events

pub returns-clause-deliveries : goal.returns-clause-deliveries
returns-clause-deliveries c = deliveries

pub returns-clause-many_deliveries : goal.returns-clause-many_deliveries
returns-clause-many_deliveries c = many_deliveries
