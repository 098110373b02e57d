use Rattle.ipx_laws.proofs.laws.apart.real_apart.Goals as goal
use Rattle.ipx_laws.proofs.ticks.RoutesBecomeReal.{all_real, all_on, none_over}

pub returns-clause-routes : goal.returns-clause-routes
returns-clause-routes c net most_routes most_services foreign run first ticks router is are (rest, leaves, beside) long within =
    all_real net c.layouts.ensures is most_routes most_services foreign run first ticks are rest leaves beside router within long

pub returns-clause-own_ports : goal.returns-clause-own_ports
returns-clause-own_ports c net most_routes most_services foreign run first ticks router is are (rest, leaves, beside) within =
    all_on net c.layouts.ensures is most_routes most_services foreign run first ticks are rest leaves beside router within

pub returns-clause-down : goal.returns-clause-down
returns-clause-down c net most_routes most_services foreign run first ticks router place is are (rest, leaves, beside) long within down =
    none_over net c.layouts.ensures is most_routes most_services foreign run first ticks are rest leaves beside router within long place down
