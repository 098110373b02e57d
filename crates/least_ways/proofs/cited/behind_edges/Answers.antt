use Rattle.std.proofs.Common.{arith}
use Rattle.ipx_internet.specs.Run.{begun}
use Rattle.ipx_laws.specs.Edges.{edge_run}
use Rattle.least_ways.proofs.cited.behind_edges.Goals as goal

pub returns : goal.returns
returns c net most_routes most_services histories steps start p forwards is differ are all packet plain in_course apart =
    let log = (edge_run net most_routes most_services (begun histories) steps).log in
    let few = c.courses.ensures.one_network net log start p forwards is differ
    (c.runs.ensures.listed net most_routes most_services histories steps is are all) packet plain in_course apart in
    omega (arith, few)
