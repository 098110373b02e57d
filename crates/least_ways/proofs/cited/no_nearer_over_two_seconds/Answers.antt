use Rattle.least_ways.proofs.cited.no_nearer_over_two_seconds.Goals as goal

pub returns : goal.returns
returns c net most_routes most_services = c.served_on_wires.ensures.away_whatever_flies net most_routes most_services 2
