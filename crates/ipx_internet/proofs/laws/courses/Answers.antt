use Rattle.ipx_internet.proofs.laws.courses.Goals as goal
use Rattle.ipx_internet.proofs.packets.SentOnReadAgain.{Wire}
use Rattle.ipx_internet.proofs.trees.NoNetworkTwice.{all_networks, no_network_twice, fewer_than_networks}
use Rattle.ipx_internet.proofs.trees.SixteenForwardsAtMost.{one_network}

-- the laws of packets
wire : goal.After-same_offers → Wire
wire c = record {
  one_packet = c.readings.ensures.one_packet;
  one_crossed = c.readings.ensures.one_crossed;
  forwarded_again = c.reread.ensures.forwarded;
  propagated_again = c.reread.ensures.propagated;
  crossed_again = c.reread.ensures.crossed;
  same_nodes = c.same_offers.ensures.nodes;
}

pub returns-clause-one_network : goal.returns-clause-one_network
returns-clause-one_network c net log start p forwards is differ whole = one_network (wire c) net is differ log whole start p forwards

pub returns-clause-all_networks : goal.returns-clause-all_networks
returns-clause-all_networks c net log start p path is whole packet all = all_networks (wire c) net is log whole start p packet all path

pub returns-clause-no_network_twice : goal.returns-clause-no_network_twice
returns-clause-no_network_twice c net log start p path is whole packet all = no_network_twice (wire c) net is log whole start p packet all path

pub returns-clause-fewer_than_networks : goal.returns-clause-fewer_than_networks
returns-clause-fewer_than_networks c net log start p path networks is whole packet all leads =
    fewer_than_networks (wire c) net is log whole start p packet all path networks leads
