use Rattle.ipx_configuration.proofs.Meaning.{kinds, tunnels, others, paths, one_of_peers}
use Rattle.ipx_configuration.proofs.laws.what_apart_is.Goals as goal

pub returns-clause-kinds : goal.returns-clause-kinds
returns-clause-kinds c = kinds

pub returns-clause-tunnels : goal.returns-clause-tunnels
returns-clause-tunnels c = tunnels

pub returns-clause-others : goal.returns-clause-others
returns-clause-others c = others

pub returns-clause-paths : goal.returns-clause-paths
returns-clause-paths c = paths

pub returns-clause-peers : goal.returns-clause-peers
returns-clause-peers c = one_of_peers
