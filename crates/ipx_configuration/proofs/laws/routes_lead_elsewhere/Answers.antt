use Rattle.ipx_configuration.proofs.Elsewhere.{to_a_network, to_the_internal, network_routed, internal_routed}
use Rattle.ipx_configuration.proofs.laws.routes_lead_elsewhere.Goals as goal

pub returns-clause-network : goal.returns-clause-network
returns-clause-network c = to_a_network

pub returns-clause-internal : goal.returns-clause-internal
returns-clause-internal c = to_the_internal

pub returns-clause-routed : goal.returns-clause-routed
returns-clause-routed c = network_routed

pub returns-clause-routed_internal : goal.returns-clause-routed_internal
returns-clause-routed_internal c = internal_routed
