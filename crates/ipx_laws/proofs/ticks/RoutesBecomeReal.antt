-- After the ticks by which what is gone is gone, each route to a network off the list is of a real way, so that none is to such a network that is
-- gone.
use Rattle.std.proofs.Common.{◌≡◌, ◌≢◌, refl, sym, ap, ◌∙◌, subst, ℕ, ◌≤◌, ◌<◌, ◌==◌, true, false, List, [], ◌∷◌, length, map, inl, inr, arith}
use Rattle.std.specs.List.{AllByRecursion}
use Rattle.std.proofs.lemmas.Bool.{both_ways, eq-eqb, eqb-true, or_cases, or_left, or_right}
use Rattle.ipx_wire.specs.declared.network.Network.{Network}
use Rattle.ipx_wire.specs.Crossed.{is_among}
use Rattle.ipx_router.specs.History.{History}
use Rattle.ipx_router.specs.Port.{Port, port_at, is_up}
use Rattle.ipx_router.specs.declared.route_offer.RouteOffer.{RouteOffer}
use Rattle.ipx_internet.specs.Internet.{Internet, Place, IsInternet, ports_of}
use Rattle.ipx_internet.specs.Run.{Step, AreHistories, Run, forgotten, run_of}
use Rattle.ipx_internet.specs.Ticks.{ticked}
use Rattle.ipx_internet.proofs.lists.EachElement.{all_then}
use Rattle.ipx_internet.proofs.packets.SentOnOrReply.{Layouts}
use Rattle.ipx_laws.specs.Apart.{TellsOnlyOf, AreTicksBeside, IsRealApart}
use Rattle.ipx_laws.specs.Gone.{most_ticks_gone, IsGone}
use Rattle.ipx_laws.specs.Meanwhile.{LeavesPorts, SaysOnly, AreBusyTicks}
use Rattle.ipx_laws.specs.Real.{IsReal, next, farther, led_over}
use Rattle.ipx_laws.specs.Setting.{ComesToRest}
use Rattle.ipx_laws.specs.Tables.{routes_of}
use Rattle.ipx_laws.specs.Ups.{ups, networks_up}
use Rattle.ipx_laws.specs.Wires.{WireStep, still, beats_of, AreBeats, EachWireStep}
use Rattle.ipx_laws.proofs.ticks.AfterRest.{Kept, kept_after}
use Rattle.ipx_laws.proofs.wires.LockStep.{as_beats, as_many, beats_say, are_beats, same_last}
use Rattle.ipx_laws.proofs.wires.RealOnWires.{all_on as on_wires, all_real as real_on_wires}

-- ---- networks without a port

-- the network of a port that is up is among those of the ports that are up
pub among_ups : (ports : List Port) (up : List ℕ) (number : ℕ) → is_up up number ≡ true
    → is_among (port_at ports number).network (map (λ k. (port_at ports k).network) up) ≡ true
among_ups ports [] number on = absurd (both_ways false refl on)
among_ups ports (k ∷ up) number on =
    let network = (port_at ports number).network in
    let here = (port_at ports k).network.0 == network.0 in
    let behind = is_among network (map (λ j. (port_at ports j).network) up) in
    elim (or_cases (k == number) (is_up up number) on) [
      | inl same ↦
          let one = eqb-true k number same in
          or_left here behind (eq-eqb (port_at ports k).network.0 network.0 (ap (λ j. (port_at ports j).network.0) one))
      | inr rest ↦ or_right here behind (among_ups ports up number rest)
    ]

-- no way leads to a network on which no port is up
pub nowhere : (net : Internet) (histories : List History) (network : Network) → IsGone net histories network → {router : ℕ} {r : RouteOffer}
    → IsReal net (ups net histories) router r → r.network ≢ network
nowhere net histories network gone (next from beside on apart taken) same =
    let ports = ports_of net from.router in
    let here : (port_at ports beside).network ≡ network = sym (ap (λ (x : RouteOffer). x.network) taken.offer) ∙ same in
    both_ways (is_among network (networks_up net histories from.router)) (gone from.router)
    (sym (ap (λ n. is_among n (networks_up net histories from.router)) here) ∙ among_ups ports (ups net histories from.router) beside on)
nowhere net histories network gone (farther from s apart taken near real) same =
    nowhere net histories network gone real (sym (ap (λ (x : RouteOffer). x.network) taken.offer) ∙ same)

-- nor over a port that is down
module _ (net : Internet) (up : ℕ → List ℕ) (place : Place) (down : is_up (up place.router) place.port ≡ false) where
  not_over : (router : ℕ) (r : RouteOffer) (real : IsReal net up router r) → AllByRecursion (λ p. p ≢ place) (led_over net up router r real)
  not_over router r (next from beside on apart taken) = grind arith
  not_over router r (farther from s apart taken near real) = grind (arith, not_over from.router s real)

-- after ticks in which hosts tell of no route but to networks of a list: as over wires
module _ (net : Internet) (laws : Layouts) (is : IsInternet net) (most_routes most_services : ℕ) (foreign : List Network) (run : Run) (first : List Step)
    (ticks : List (List Step)) (are : AreHistories net run.histories) (rest : ComesToRest net most_routes most_services run first)
    (leaves : AllByRecursion LeavesPorts first) (beside : AreTicksBeside net most_routes most_services foreign (run_of net most_routes most_services run first) ticks)
    (router : ℕ) (within : router < length net) where
  abbrev begun : Run
  begun = run_of net most_routes most_services run first

  abbrev up : ℕ → List ℕ
  up = ups net run.histories

  abbrev held : List RouteOffer
  held = routes_of net most_routes (ticked net most_routes most_services begun ticks).histories router

  abbrev beats : List (List WireStep)
  beats = as_beats net most_routes most_services begun (still begun.histories) ticks

  abbrev busy : AreBusyTicks net most_routes most_services begun ticks
  busy = beside.0.0

  kept : Kept net laws is most_routes most_services up (forgotten begun)
  kept = kept_after net laws is most_routes most_services run first are rest leaves

  all_beats : AreBeats net beats
  all_beats = are_beats net most_routes most_services begun (still begun.histories) ticks busy

  leave : EachWireStep LeavesPorts beats
  leave = beats_say net most_routes most_services LeavesPorts begun (still begun.histories) ticks beside.0.1

  say : EachWireStep (SaysOnly (TellsOnlyOf foreign)) beats
  say = beats_say net most_routes most_services (SaysOnly (TellsOnlyOf foreign)) begun (still begun.histories) ticks beside.1

  last : (P : RouteOffer → Type 0)
      → AllByRecursion P (routes_of net most_routes (beats_of net most_routes most_services 0 (still begun.histories) beats).histories router) → AllByRecursion P held
  last P all = subst (λ (hs : List History). AllByRecursion P (routes_of net most_routes hs router)) (same_last net most_routes most_services begun rest.2 ticks busy) all

  -- what is held came by ports that were up all the time
  pub all_on : AllByRecursion (λ r. is_up (up router) r.port ≡ true) held
  all_on =
      last (λ r. is_up (up router) r.port ≡ true)
      (on_wires 0 0 net laws is most_routes most_services up foreign begun.histories kept.sound.are kept.stay [] tt (inl refl) beats all_beats leave say router within)

  module _ (long : most_ticks_gone ≤ length ticks) where
    pub all_real : AllByRecursion (IsRealApart net up foreign router) held
    all_real =
        let same = as_many net most_routes most_services begun (still begun.histories) ticks in
        last (IsRealApart net up foreign router)
        (real_on_wires 0 0 net laws is most_routes most_services up foreign begun.histories kept.sound.are kept.stay [] tt (inl refl) beats all_beats leave say router
        within (omega (arith, long, same)))

    pub none_over : (place : Place) → is_up (up place.router) place.port ≡ false
        → AllByRecursion (λ r. is_among r.network foreign ≡ false
        → (real : IsReal net up router r) × AllByRecursion (λ p. p ≢ place) (led_over net up router r real)) held
    none_over place down =
        all_then (IsRealApart net up foreign router)
        (λ r. is_among r.network foreign ≡ false → (real : IsReal net up router r) × AllByRecursion (λ p. p ≢ place) (led_over net up router r real))
        (λ r fine off. (fine off, not_over net up place down router r (fine off))) held all_real
