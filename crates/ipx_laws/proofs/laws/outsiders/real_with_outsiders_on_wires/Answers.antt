use Rattle.std.proofs.Common.{refl, [], inl, inr, arith}
use Rattle.ipx_laws.specs.Outsiders.{ups_with, IsTrueOf}
use Rattle.ipx_laws.specs.Wires.{most_beats_flying}
use Rattle.ipx_laws.proofs.laws.outsiders.real_with_outsiders_on_wires.Goals as goal
use Rattle.ipx_laws.proofs.outsiders.PortsOfOutsiders.{ours_up}
use Rattle.ipx_laws.proofs.wires.RealOnWires.{held_real}

pub returns-clause-routes : goal.returns-clause-routes
returns-clause-routes c net most_routes most_services delay ours foreign histories beats router is are stopped all leave say long within mine =
    let up = ups_with net ours histories in
    held_real delay 0 net c.layouts.ensures is most_routes most_services up foreign ours (IsTrueOf net up) (λ from e says. says) histories are (ours_up net ours histories) stopped
    [] tt (inl refl) beats all leave say router within mine (omega (arith, long))

pub returns-clause-whatever_flies : goal.returns-clause-whatever_flies
returns-clause-whatever_flies c net most_routes most_services delay ours foreign histories deliveries beats router is are stopped fly all leave say long within mine =
    let up = ups_with net ours histories in
    held_real delay (most_beats_flying delay) net c.layouts.ensures is most_routes most_services up foreign ours (IsTrueOf net up) (λ from e says. says) histories are
    (ours_up net ours histories) stopped deliveries fly (inr (omega arith)) beats all leave say router within mine long
