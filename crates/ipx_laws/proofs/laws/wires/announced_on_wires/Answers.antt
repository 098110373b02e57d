use Rattle.std.proofs.Common.{refl, [], inl, inr, arith}
use Rattle.ipx_laws.specs.Wires.{most_beats_flying}
use Rattle.ipx_laws.proofs.laws.wires.announced_on_wires.Goals as goal
use Rattle.ipx_laws.proofs.wires.AnnouncedOnWires.{announced}

pub returns-clause-services : goal.returns-clause-services
returns-clause-services c net most_routes most_services delay histories beats router is are all long within apart =
    announced net c.layouts.ensures is most_routes most_services delay 0 histories are [] tt (inl refl) beats all (omega (arith, long)) router within apart

pub returns-clause-whatever_flies : goal.returns-clause-whatever_flies
returns-clause-whatever_flies c net most_routes most_services delay histories deliveries beats router is are fly all long within apart =
    announced net c.layouts.ensures is most_routes most_services delay (most_beats_flying delay) histories are deliveries fly (inr (omega arith)) beats all long router within apart
