use Rattle.std.proofs.Common.{◌≢◌, subst, List, arith}
use Rattle.std.specs.List.{AllByRecursion}
use Rattle.ipx_router.specs.History.{History}
use Rattle.ipx_internet.specs.Run.{run_of}
use Rattle.ipx_laws.specs.Meanwhile.{IsWithoutRoute, IsWithoutService, SaysOnly}
use Rattle.ipx_laws.specs.Tables.{routes_of, services_of}
use Rattle.ipx_laws.specs.Wires.{still}
use Rattle.ipx_laws.proofs.laws.gone_meanwhile.Goals as goal
use Rattle.ipx_laws.proofs.ticks.AfterRest.{are_after}
use Rattle.ipx_laws.proofs.wires.LockStep.{as_beats, as_many, beats_say, are_beats, follows_still, keep_gone, same_last}

pub returns-clause-networks : goal.returns-clause-networks
returns-clause-networks c net most_routes most_services run first ticks router network is are (rest, busy) long within gone says =
    let next = run_of net most_routes most_services run first in
    let now = still next.histories in
    let beats = as_beats net most_routes most_services next now ticks in
    let same = as_many net most_routes most_services next now ticks in
    subst (λ (hs : List History). AllByRecursion (λ r. r.network ≢ network) (routes_of net most_routes hs router))
    (same_last net most_routes most_services next rest.2 ticks busy)
    (c.gone_on_wires.ensures.networks net most_routes most_services 0 next.histories beats router network is
    (are_after net c.layouts.ensures is most_routes most_services run first are rest) (are_beats net most_routes most_services next now ticks busy)
    (omega (arith, long, same)) within
    (keep_gone net most_routes most_services network next now ticks busy (follows_still net most_routes most_services next rest.2) gone)
    (beats_say net most_routes most_services (SaysOnly (IsWithoutRoute network)) next now ticks says))

pub returns-clause-services : goal.returns-clause-services
returns-clause-services c net most_routes most_services run first ticks router key is are (rest, busy) long within says =
    let next = run_of net most_routes most_services run first in
    let now = still next.histories in
    let same = as_many net most_routes most_services next now ticks in
    subst (λ (hs : List History). AllByRecursion (λ s. (s.service.kind, s.service.name) ≢ key) (services_of net most_services hs router))
    (same_last net most_routes most_services next rest.2 ticks busy)
    (c.gone_on_wires.ensures.services net most_routes most_services 0 next.histories (as_beats net most_routes most_services next now ticks) router key is
    (are_after net c.layouts.ensures is most_routes most_services run first are rest) (are_beats net most_routes most_services next now ticks busy)
    (omega (arith, long, same)) within
    (beats_say net most_routes most_services (SaysOnly (IsWithoutService key)) next now ticks says))
