-- Where nothing waits after losses, each route is of a real way.
use Rattle.std.proofs.Common.{◌≡◌, ap, subst, ◌⊎◌, ℕ, zero, suc, ◌+◌, ◌<◌, true, List, [], length, Some, inl, inr, arith, is_eq}
use Rattle.std.proofs.lemmas.Bool.{both_ways}
use Rattle.ipx_wire.specs.Crossed.{is_among}
use Rattle.ipx_wire.specs.declared.network.Network.{Network}
use Rattle.ipx_wire.specs.declared.rip.RipEntry.{RipEntry}
use Rattle.ipx_router.specs.Facts.{route_offer, route_facts}
use Rattle.ipx_router.specs.History.{History}
use Rattle.ipx_router.specs.Port.{is_up}
use Rattle.ipx_router.specs.Routes.{network_order}
use Rattle.ipx_router.specs.declared.route_offer.RouteOffer.{RouteOffer}
use Rattle.ipx_router.proofs.tables.HeldCameByPortsUp.{held_routes_up}
use Rattle.ipx_internet.specs.Internet.{Internet, IsInternet, ports_of, port_of, network_of}
use Rattle.ipx_internet.specs.Queue.{Queued, history_of}
use Rattle.ipx_internet.proofs.packets.SentOnOrReply.{Layouts}
use Rattle.ipx_internet.proofs.trees.RunIsALog.{router_there}
use Rattle.ipx_laws.specs.Gone.{IsGone}
use Rattle.ipx_laws.specs.Real.{IsReal, IsTaken, next, farther}
use Rattle.ipx_laws.specs.Tables.{routes_of, AreReal}
use Rattle.ipx_laws.specs.Ups.{ups, networks_up}
use Rattle.ipx_laws.proofs.lists.SomeElement.{AnyIs, found_with}
use Rattle.ipx_laws.proofs.losses.EachLossIsSaid.{Says, Direct, Learned}
use Rattle.ipx_laws.proofs.losses.LossesGoOn.{Losing, Stem}
use Rattle.ipx_laws.proofs.losses.TablesShrink.{route_at, IsDead, each_held}
use Rattle.ipx_laws.proofs.losses.WordsThatWait.{IsWordFor}
use Rattle.ipx_laws.proofs.ticks.RoutesBecomeReal.{among_ups}

module _ (net : Internet) (laws : Layouts) (is : IsInternet net) (most_routes most_services : ℕ) (last : List History)
    (losing : Losing net laws is most_routes most_services last (record { histories = last; queue = [] })) where
  abbrev q : Queued
  q = record { histories = last; queue = [] }

  on_now : (router : ℕ) (r : RouteOffer) → route_at r.network (routes_of net most_routes last router) ≡ Some r → is_up (ups net last router) r.port ≡ true
  on_now router r held =
      (found_with (λ x. is_up (ups net last router) x.port ≡ true) (λ x. is_eq (network_order x.network r.network)) (routes_of net most_routes last router) r
      (held_routes_up (ports_of net router) most_routes (history_of last router)) held).0

  -- all that are held of fewer hops are
  abbrev AllBelow : ℕ → Type 0
  AllBelow n =
      (router : ℕ) → router < length net → (r : RouteOffer) → r.hops < n → route_at r.network (routes_of net most_routes last router) ≡ Some r
      → IsReal net (ups net last) router r

  real : (n : ℕ) → AllBelow n
  real zero router inside r less held = absurd (omega (arith, less))
  real (suc n) router inside r less held = by (real n) stem.says
    where
      stem : Stem net laws is most_routes most_services last q router r
      stem = losing.stems router inside r held

      on : is_up (ups net last router) r.port ≡ true
      on = on_now router r held

      lost_never : IsGone net last (network_of net stem.from) → ⊥
      lost_never gone =
          both_ways (is_among (network_of net stem.from) (networks_up net last router)) (gone router)
          (subst (λ (n : Network). is_among n (networks_up net last router) ≡ true) stem.network
          (among_ups (ports_of net router) (ups net last router) r.port on))

      taken : (entry : RipEntry) → is_up (ups net last stem.from.router) stem.from.port ≡ true
          → r ≡ route_offer r.port (port_of net stem.from).node entry → IsTaken net (ups net last) router r stem.from entry
      taken entry there offer = record { other = stem.other; here = on; there = there; network = stem.network; wanted = stem.wanted; offer = offer }

      told : AllBelow n → (says : Says (ports_of net stem.from.router) most_routes (history_of last stem.from.router) stem.from.port r)
          → Direct (ports_of net stem.from.router) most_routes (history_of last stem.from.router) stem.from.port r
          ⊎ Learned (ports_of net stem.from.router) most_routes (history_of last stem.from.router) stem.from.port r
          → IsReal net (ups net last) router r
      told deeper says (inl direct) = next stem.from direct.beside direct.up direct.apart (taken _ says.on direct.offer)
      told deeper says (inr learned) =
          let hops : r.hops ≡ learned.route.hops + 1 = ap (λ (x : RouteOffer). x.hops) learned.offer in
          farther stem.from learned.route learned.apart (taken _ says.on learned.offer) learned.near
          (deeper stem.from.router (router_there net stem.from.router stem.from.port stem.place) learned.route (omega (arith, hops, less)) learned.held)

      by : AllBelow n → Says (ports_of net stem.from.router) most_routes (history_of last stem.from.router) stem.from.port r
          ⊎ (AnyIs (IsWordFor net r.network IsDead stem.from (record { router = router; port = r.port })) [] ⊎ IsGone net last (network_of net stem.from))
          → IsReal net (ups net last) router r
      by deeper (inl says) = told deeper says says.what
      by deeper (inr (inl waits)) = absurd waits
      by deeper (inr (inr gone)) = absurd (lost_never gone)

  pub all_real : AreReal net most_routes last (ups net last)
  all_real router inside =
      each_held (ports_of net router) most_routes (IsReal net (ups net last) router) (route_facts (ports_of net router) (history_of last router))
      (λ r held. real (suc r.hops) router inside r (omega arith) held)
