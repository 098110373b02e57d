use Rattle.std.proofs.Common.{refl, [], inl, inr, arith}
use Rattle.ipx_laws.proofs.laws.wires.gone_on_wires.Goals as goal
use Rattle.ipx_laws.specs.Wires.{most_beats_flying}
use Rattle.ipx_laws.proofs.wires.GoneOnWires.{no_route, no_such_service}

pub returns-clause-networks : goal.returns-clause-networks
returns-clause-networks c net most_routes most_services delay histories beats router network is are all long within gone says =
    no_route net c.layouts.ensures is most_routes most_services delay 0 histories are [] tt (inl refl) beats all (omega (arith, long)) router within network gone says

pub returns-clause-services : goal.returns-clause-services
returns-clause-services c net most_routes most_services delay histories beats router key is are all long within says =
    no_such_service net c.layouts.ensures is most_routes most_services delay 0 histories are [] tt (inl refl) beats all (omega (arith, long)) router within key says

pub returns-clause-networks_whatever_flies : goal.returns-clause-networks_whatever_flies
returns-clause-networks_whatever_flies c net most_routes most_services delay histories deliveries beats router network is are fly all long within gone says =
    no_route net c.layouts.ensures is most_routes most_services delay (most_beats_flying delay) histories are deliveries fly (inr (omega arith)) beats all long router within
    network gone says

pub returns-clause-services_whatever_flies : goal.returns-clause-services_whatever_flies
returns-clause-services_whatever_flies c net most_routes most_services delay histories deliveries beats router key is are fly all long within says =
    no_such_service net c.layouts.ensures is most_routes most_services delay (most_beats_flying delay) histories are deliveries fly (inr (omega arith)) beats all long router within
    key says
