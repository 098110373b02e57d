use Rattle.ipx_internet.specs.Run.{begun}
use Rattle.ipx_internet.proofs.trees.RunIsALog.{is_log}
use Rattle.ipx_laws.specs.Edges.{edge_run}
use Rattle.ipx_laws.proofs.edges.AsWithoutEdges.{gone, same_run}
use Rattle.ipx_laws.proofs.edges.EdgesKeepRuns.{runs_well}
use Rattle.ipx_laws.proofs.laws.edges.runs.Goals as goal

pub returns-clause-listed : goal.returns-clause-listed
returns-clause-listed c net most_routes most_services histories steps is are all =
    is_log net (edge_run net most_routes most_services (begun histories) steps)
    (runs_well net c.layouts.ensures c.routing.ensures c.edge.ensures is most_routes most_services histories steps are all).good

pub returns-clause-numbered : goal.returns-clause-numbered
returns-clause-numbered c net most_routes most_services histories steps place p is are all within read =
    ((runs_well net c.layouts.ensures c.routing.ensures c.edge.ensures is most_routes most_services histories steps are all).named place within).named p read

pub returns-clause-same : goal.returns-clause-same
returns-clause-same c = same_run

pub returns-clause-held : goal.returns-clause-held
returns-clause-held c = gone
