use Rattle.ipx_internet.proofs.laws.trees.Goals as goal
use Rattle.ipx_internet.proofs.packets.SentOnIsBytes.{SentOn}
use Rattle.ipx_internet.proofs.packets.SentOnReadAgain.{Wire}
use Rattle.ipx_internet.proofs.trees.DirectedIsBounded as following
use Rattle.ipx_internet.proofs.trees.NextLevelIsBounded.{Relaying, is_forward, is_sent_on}
use Rattle.ipx_internet.proofs.trees.PropagatedIsBounded as spreading
use Rattle.ipx_internet.proofs.trees.SeventeenLevelsAtMost as ending

-- the laws of packets and routers
wire : goal.After-relays → Wire
wire c = record {
  one_packet = c.readings.ensures.one_packet;
  one_crossed = c.readings.ensures.one_crossed;
  forwarded_again = c.reread.ensures.forwarded;
  propagated_again = c.reread.ensures.propagated;
  crossed_again = c.reread.ensures.crossed;
  same_nodes = c.same_offers.ensures.nodes;
}

relaying : goal.After-relays → Relaying
relaying c = record {
  packet_read = c.readings.ensures.packet_read;
  listed = c.relays.ensures.listed;
  all = c.relays.ensures.all;
  in_order = c.relays.ensures.in_order;
}

over : goal.After-relays → SentOn
over c = record { forwarded_over = c.sent_on.ensures.forwarded; propagated_over = c.sent_on.ensures.propagated }

pub returns-clause-all_networks : goal.returns-clause-all_networks
returns-clause-all_networks c routers copy p n made right = spreading.all_networks (wire c) (relaying c) (over c) routers made right copy p n

pub returns-clause-one_network : goal.returns-clause-one_network
returns-clause-one_network c routers copy p n made differ right = following.one_network (wire c) (relaying c) (over c) routers made right differ copy p n

pub returns-clause-nowhere : goal.returns-clause-nowhere
returns-clause-nowhere c routers copy n made right = following.nowhere (wire c) (relaying c) (over c) routers made right copy n

pub returns-clause-whole : goal.returns-clause-whole
returns-clause-whole c routers copy n made right bytes deep = ending.whole (wire c) (relaying c) (over c) routers made right copy n bytes (deep)

pub returns-clause-as_they_are : goal.returns-clause-as_they_are
returns-clause-as_they_are c ports most_routes history on_ports = record {
  rising = (c.relays.ensures.ups ports history).0;
  within = (c.relays.ensures.ups ports history).1;
  table = c.tables.ensures.of_a_table ports most_routes history on_ports;
  routes_up = c.tables.ensures.routes_up ports most_routes history;
}

pub returns-clause-by_forwards : goal.returns-clause-by_forwards
returns-clause-by_forwards c r number bytes s is are = (
  λ there. is_forward (relaying c) r is number bytes s are there.0 there.1,
  λ forward. is_sent_on (relaying c) r is number bytes s are forward.0 forward.1,
)
