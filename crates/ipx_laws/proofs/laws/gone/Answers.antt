use Rattle.std.proofs.Common.{◌≢◌, ◌∷◌}
use Rattle.ipx_router.specs.Facts.{services_held, offers}
use Rattle.ipx_internet.specs.Internet.{ports_of}
use Rattle.ipx_internet.specs.Queue.{history_of}
use Rattle.ipx_internet.specs.Run.{run_of}
use Rattle.ipx_internet.specs.Ticks.{ticked}
use Rattle.ipx_internet.proofs.lists.EachElement.{all_then}
use Rattle.ipx_laws.specs.Meanwhile.{IsWithoutService}
use Rattle.ipx_laws.specs.Real.{IsReal}
use Rattle.ipx_laws.specs.Tables.{routes_of}
use Rattle.ipx_laws.specs.Ups.{ups}
use Rattle.ipx_laws.proofs.laws.gone.Goals as goal
use Rattle.ipx_laws.proofs.ticks.NoServiceInTicks.{none_left, no_records}
use Rattle.ipx_laws.proofs.ticks.RoutesBecomeReal.{nowhere}
use Rattle.ipx_laws.proofs.ticks.TickAfterTick.{ticks_of_hosts, all_say_nothing}

pub returns-clause-networks : goal.returns-clause-networks
returns-clause-networks c net most_routes most_services run first ticks router network is are calm long within gone =
    all_then (IsReal net (ups net run.histories) router) (λ r. r.network ≢ network) (λ r real. nowhere net run.histories network gone real)
    (routes_of net most_routes (ticked net most_routes most_services run (first ∷ ticks)).histories router)
    (c.real.ensures.routes net most_routes most_services run first ticks router is are calm long within)

pub returns-clause-services : goal.returns-clause-services
returns-clause-services c net most_routes most_services run first ticks router is are (rest, passes) long within =
    let next = run_of net most_routes most_services run first in
    let held = services_held (ports_of net router) most_services (history_of (ticked net most_routes most_services next ticks).histories router) in
    no_records held (none_left (offers held) (λ key.
    c.gone_meanwhile.ensures.services net most_routes most_services run first ticks router key is are
    (rest, (ticks_of_hosts net most_routes most_services next ticks passes).0) long within
    (all_say_nothing net most_routes most_services (IsWithoutService key) next ticks passes)))
