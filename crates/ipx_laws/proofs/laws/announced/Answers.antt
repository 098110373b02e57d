use Rattle.std.proofs.Common.{subst, List, arith}
use Rattle.std.specs.List.{AllByRecursion}
use Rattle.ipx_router.specs.History.{History}
use Rattle.ipx_internet.specs.Run.{run_of}
use Rattle.ipx_internet.specs.Ticks.{ticked}
use Rattle.ipx_internet.proofs.lists.EachElement.{all_then}
use Rattle.ipx_laws.specs.Announces.{IsAnnounced, AsksApart}
use Rattle.ipx_laws.specs.Meanwhile.{SaysOnly}
use Rattle.ipx_laws.specs.Tables.{services_of}
use Rattle.ipx_laws.specs.WireAnnounces.{WasAnnounced}
use Rattle.ipx_laws.specs.Wires.{still}
use Rattle.ipx_laws.proofs.laws.announced.Goals as goal
use Rattle.ipx_laws.proofs.ticks.AfterRest.{are_after}
use Rattle.ipx_laws.proofs.wires.LockStep.{as_beats, as_many, beats_say, are_beats, same_last, announced}

pub returns : goal.returns
returns c = record {
  services = λ net most_routes most_services run first ticks router is are (rest, busy) long within apart.
      let next = run_of net most_routes most_services run first in
      let now = still next.histories in
      let beats = as_beats net most_routes most_services next now ticks in
      let same = as_many net most_routes most_services next now ticks in
      let last = ticked net most_routes most_services next ticks in
      all_then (λ s. WasAnnounced net most_routes most_services 0 now beats s.service) (λ s. IsAnnounced net most_routes most_services next ticks s.service)
      (λ s was. announced net most_routes most_services next rest.2 ticks busy s.service was) (services_of net most_services last.histories router)
      (subst (λ (hs : List History). AllByRecursion (λ s. WasAnnounced net most_routes most_services 0 now beats s.service) (services_of net most_services hs router))
      (same_last net most_routes most_services next rest.2 ticks busy)
      (c.announced_on_wires.ensures.services net most_routes most_services 0 next.histories beats router is
      (are_after net c.layouts.ensures is most_routes most_services run first are rest) (are_beats net most_routes most_services next now ticks busy)
      (omega (arith, long, same)) within (beats_say net most_routes most_services (SaysOnly AsksApart) next now ticks apart)));
}
