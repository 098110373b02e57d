use Rattle.std.proofs.Common.{arith}
use Rattle.ipx_internet.proofs.laws.weights.Goals as goal
use Rattle.ipx_internet.proofs.packets.SentOnIsBytes.{SentOn}
use Rattle.ipx_internet.proofs.packets.SentOnReadAgain.{Wire}
use Rattle.ipx_internet.proofs.trees.ForwardsWeighNoMore as weighing
use Rattle.ipx_internet.proofs.trees.NextLevelIsBounded.{Relaying}
use Rattle.ipx_internet.proofs.trees.RootOutweighsItsList as weighed

-- the laws of packets and routers
wire : goal.After-relays → Wire
wire c = record {
  one_packet = c.readings.ensures.one_packet;
  one_crossed = c.readings.ensures.one_crossed;
  forwarded_again = c.reread.ensures.forwarded;
  propagated_again = c.reread.ensures.propagated;
  crossed_again = c.reread.ensures.crossed;
  same_nodes = c.same_offers.ensures.nodes;
}

relaying : goal.After-relays → Relaying
relaying c = record {
  packet_read = c.readings.ensures.packet_read;
  listed = c.relays.ensures.listed;
  all = c.relays.ensures.all;
  in_order = c.relays.ensures.in_order;
}

over : goal.After-relays → SentOn
over c = record { forwarded_over = c.sent_on.ensures.forwarded; propagated_over = c.sent_on.ensures.propagated }

pub returns-clause-never_rises : goal.returns-clause-never_rises
returns-clause-never_rises c routers copy number made differ right can =
    weighing.never_rises (wire c) (relaying c) (over c) routers made right copy can number differ

pub returns-clause-can_come : goal.returns-clause-can_come
returns-clause-can_come c routers copy number made right can = weighing.can_come (wire c) (relaying c) (over c) routers made right copy can number

pub returns-clause-at_least_one : goal.returns-clause-at_least_one
returns-clause-at_least_one c = weighed.at_least_one

pub returns-clause-begins : goal.returns-clause-begins
returns-clause-begins c = weighed.begins

pub returns-clause-goes_on : goal.returns-clause-goes_on
returns-clause-goes_on c routers root copy copies sent number made differ right bounded there =
    weighing.stays_bounded (wire c) (relaying c) (over c) routers made right differ root copy copies sent number bounded there

pub returns-clause-few : goal.returns-clause-few
returns-clause-few c net root copies sent bounded = weighed.few net root copies sent bounded

pub returns-clause-all_networks : goal.returns-clause-all_networks
returns-clause-all_networks c net copy p bytes packet all = let same = weighing.all_weighs (relaying c) net copy p bytes packet all in omega (arith, same)

pub returns-clause-one_network : goal.returns-clause-one_network
returns-clause-one_network c net copy p can packet one few = weighing.one_network (relaying c) net copy p can packet one few

pub returns-clause-nowhere : goal.returns-clause-nowhere
returns-clause-nowhere c net copy bytes old = weighing.nowhere (relaying c) net copy bytes old
