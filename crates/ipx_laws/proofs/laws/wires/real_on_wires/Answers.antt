use Rattle.std.proofs.Common.{refl, [], inl, inr, arith}
use Rattle.ipx_laws.specs.Ups.{ups}
use Rattle.ipx_laws.specs.Wires.{most_beats_flying}
use Rattle.ipx_laws.proofs.laws.wires.real_on_wires.Goals as goal
use Rattle.ipx_laws.proofs.wires.RealOnWires.{all_real, all_on, every_real, none_beside}

pub returns-clause-routes : goal.returns-clause-routes
returns-clause-routes c net most_routes most_services delay histories beats router is are all leave says long within =
    every_real delay 0 net c.layouts.ensures is most_routes most_services (ups net histories) histories are (λ other. refl) [] tt (inl refl) beats all leave
    says router within (omega (arith, long))

pub returns-clause-apart : goal.returns-clause-apart
returns-clause-apart c net most_routes most_services delay foreign histories beats router is are all leave says long within =
    all_real delay 0 net c.layouts.ensures is most_routes most_services (ups net histories) foreign histories are (λ other. refl) [] tt (inl refl) beats all leave says router within
    (omega (arith, long))

pub returns-clause-own_ports : goal.returns-clause-own_ports
returns-clause-own_ports c net most_routes most_services delay histories beats router is are all leave says within =
    all_on delay 0 net c.layouts.ensures is most_routes most_services (ups net histories) [] histories are (λ other. refl) [] tt (inl refl) beats all leave
    (none_beside beats says) router within

pub returns-clause-whatever_flies : goal.returns-clause-whatever_flies
returns-clause-whatever_flies c net most_routes most_services delay histories deliveries beats router is are fly all leave says long within =
    every_real delay (most_beats_flying delay) net c.layouts.ensures is most_routes most_services (ups net histories) histories are (λ other. refl) deliveries fly
    (inr (omega arith)) beats all leave says router within long

pub returns-clause-apart_whatever_flies : goal.returns-clause-apart_whatever_flies
returns-clause-apart_whatever_flies c net most_routes most_services delay foreign histories deliveries beats router is are fly all leave says long within =
    all_real delay (most_beats_flying delay) net c.layouts.ensures is most_routes most_services (ups net histories) foreign histories are (λ other. refl) deliveries fly
    (inr (omega arith)) beats all leave says router within long
