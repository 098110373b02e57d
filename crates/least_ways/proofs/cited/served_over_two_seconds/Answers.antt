use Rattle.least_ways.proofs.cited.served_over_two_seconds.Goals as goal

pub returns : goal.returns
returns c net most_routes most_services server names histories beats router hops is are leaves quick regular differ nearest heard long =
    c.everywhere_on_wires.ensures.has net most_routes most_services 2 123 server names 1 histories beats router hops is are leaves quick regular differ
    nearest heard long
