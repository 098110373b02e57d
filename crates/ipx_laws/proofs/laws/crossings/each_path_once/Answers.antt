use Rattle.ipx_internet.proofs.packets.SentOnIsBytes.{SentOn}
use Rattle.ipx_internet.proofs.packets.SentOnReadAgain.{Wire}
use Rattle.ipx_internet.proofs.trees.NextLevelIsBounded.{Relaying}
use Rattle.ipx_laws.proofs.crossings.EachPathOnce as by_levels
use Rattle.ipx_laws.proofs.laws.crossings.each_path_once.Goals as goal

-- the laws of packets and routers
wire : goal.After-relays → Wire
wire c = record {
  one_packet = c.readings.ensures.one_packet;
  one_crossed = c.readings.ensures.one_crossed;
  forwarded_again = c.reread.ensures.forwarded;
  propagated_again = c.reread.ensures.propagated;
  crossed_again = c.reread.ensures.crossed;
  same_nodes = c.same_offers.ensures.nodes;
}

relaying : goal.After-relays → Relaying
relaying c = record {
  packet_read = c.readings.ensures.packet_read;
  listed = c.relays.ensures.listed;
  all = c.relays.ensures.all;
  in_order = c.relays.ensures.in_order;
}

over : goal.After-relays → SentOn
over c = record { forwarded_over = c.sent_on.ensures.forwarded; propagated_over = c.sent_on.ensures.propagated }

pub returns-clause-ends : goal.returns-clause-ends
returns-clause-ends c routers from bytes p n made right are is all = by_levels.ends (wire c) (relaying c) (over c) routers made right p from bytes are is all n

pub returns-clause-once : goal.returns-clause-once
returns-clause-once c routers from bytes p n made right are is all = by_levels.once (wire c) (relaying c) (over c) routers made right p from bytes are is all n

pub returns-clause-exactly : goal.returns-clause-exactly
returns-clause-exactly c routers from bytes p n path made right are is all deep =
    by_levels.exactly (wire c) (relaying c) (over c) routers made right p from bytes are is all n deep path

pub returns-clause-as_many : goal.returns-clause-as_many
returns-clause-as_many c routers from to bytes p n ways made right are is all deep =
    by_levels.as_many (wire c) (relaying c) (over c) routers made right p from bytes are is all n deep to ways
