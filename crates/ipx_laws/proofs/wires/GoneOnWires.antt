-- Over wires, after the most beats there is no route to a network that is gone, and no service that nobody announces.
use Rattle.std.proofs.Common.{◌≡◌, ◌≢◌, refl, sym, subst, ◌⊎◌, ℕ, ◌+◌, ◌<◌, ◌≤◌, List, [], length, map, inl, inr, arith}
use Rattle.std.specs.List.{AllByRecursion}
use Rattle.ipx_wire.specs.declared.network.Network.{Network}
use Rattle.ipx_wire.specs.declared.service.Service.{Service}
use Rattle.ipx_router.specs.Facts.{route_facts, service_facts, routes_held, services_held, offers}
use Rattle.ipx_router.specs.History.{History}
use Rattle.ipx_router.specs.Port.{Port}
use Rattle.ipx_router.specs.Routes.{route_reading, network_order}
use Rattle.ipx_router.specs.Services.{service_reading, service_order}
use Rattle.ipx_router.proofs.bounds.PacketsOfEachEvent.{network_total, service_total}
use Rattle.ipx_internet.specs.Internet.{Internet, IsInternet, ports_of}
use Rattle.ipx_internet.specs.Queue.{Delivery, history_of}
use Rattle.ipx_internet.specs.Rounds.{IsDelivery}
use Rattle.ipx_internet.specs.Run.{AreHistories}
use Rattle.ipx_internet.proofs.lists.EachElement.{all_then}
use Rattle.ipx_internet.proofs.packets.SentOnOrReply.{Layouts}
use Rattle.ipx_laws.specs.Gone.{IsGone}
use Rattle.ipx_laws.specs.Meanwhile.{IsWithoutRoute, IsWithoutService, SaysOnly}
use Rattle.ipx_laws.specs.Wires.{Wires, WireStep, flying, beats_of, KeepGone, AreBeats, EachWireStep, EachBeat, most_beats_gone, most_beats_flying}
use Rattle.ipx_laws.proofs.records.RecordsGrowOld.{at_last}
use Rattle.ipx_laws.proofs.ticks.FineOrSoonEnded.{IsFineService, abides_first}
use Rattle.ipx_laws.proofs.ticks.HarmlessWords.{EveryNetwork, EveryService, OtherNetwork, OtherService, routeless, serviceless, gone_stays}
use Rattle.ipx_laws.proofs.wires.BeatAfterBeat.{Going, beats_go, starts, each_all}
use Rattle.ipx_laws.proofs.wires.FineOnWires.{Lasts, Flies, Arises, Good, Such, keeps, such_beats, any_flies}

-- nothing is asked of wires
abbrev pub AnyWires : Wires → Type 0
AnyWires w = Unit {0}

module _ (net : Internet) (laws : Layouts) (is : IsInternet net) (most_routes most_services delay slack : ℕ) (histories : List History)
    (are : AreHistories net histories) (deliveries : List Delivery) (fly : AllByRecursion (IsDelivery net) deliveries)
    (over : (deliveries ≡ []) ⊎ (most_beats_flying delay ≤ slack)) (beats : List (List WireStep)) (all : AreBeats net beats)
    (long : slack + most_beats_gone delay ≤ length beats) (router : ℕ) (within : router < length net) where
  abbrev last : Wires
  last = beats_of net most_routes most_services delay (flying histories deliveries) beats

  abbrev past : History
  past = history_of last.histories router

  abbrev ports : List Port
  ports = ports_of net router

  -- what is so of each router and of all that flies, after all these beats
  module _ (IsFine : Network → Type 0) (IsServed : Service → Type 0) where
    abbrev Ends : Type 0
    Ends =
        Going net laws is most_routes most_services delay (Lasts delay slack IsFine IsServed net laws is most_routes most_services)
        (Flies delay slack IsFine IsServed net laws is most_routes most_services) (Arises delay slack IsFine IsServed net laws is most_routes most_services)
        (Good delay slack IsFine IsServed net laws is most_routes most_services) (length beats + 0) (λ other. 0) last

    begins_fly : AllByRecursion (λ d. Flies delay slack IsFine IsServed net laws is most_routes most_services (record { delivery = d; sent = 0 })) deliveries
    begins_fly = by over
      where
        by : (deliveries ≡ []) ⊎ (most_beats_flying delay ≤ slack)
            → AllByRecursion (λ d. Flies delay slack IsFine IsServed net laws is most_routes most_services (record { delivery = d; sent = 0 })) deliveries
        by (inl none) =
            subst (λ (ds : List Delivery). AllByRecursion (λ d. Flies delay slack IsFine IsServed net laws is most_routes most_services (record { delivery = d; sent = 0 })) ds)
            (sym none) tt
        by (inr room) =
            all_then (IsDelivery net) (λ d. Flies delay slack IsFine IsServed net laws is most_routes most_services (record { delivery = d; sent = 0 }))
            (any_flies delay slack IsFine IsServed net laws is most_routes most_services room) deliveries fly

    pub ends : EachBeat net most_routes most_services delay (Such delay slack IsFine IsServed net laws is most_routes most_services) (flying histories deliveries) beats → Ends
    ends such =
        let kept = keeps delay slack IsFine IsServed net laws is most_routes most_services in
        beats_go net laws is most_routes most_services delay (Lasts delay slack IsFine IsServed net laws is most_routes most_services)
        (Flies delay slack IsFine IsServed net laws is most_routes most_services) (Arises delay slack IsFine IsServed net laws is most_routes most_services)
        (Good delay slack IsFine IsServed net laws is most_routes most_services) kept 0 beats (flying histories deliveries) all such
        (starts net laws is most_routes most_services delay (Lasts delay slack IsFine IsServed net laws is most_routes most_services)
        (Flies delay slack IsFine IsServed net laws is most_routes most_services) (Arises delay slack IsFine IsServed net laws is most_routes most_services)
        (Good delay slack IsFine IsServed net laws is most_routes most_services) kept histories deliveries are
        (λ other inside. abides_first delay slack IsFine IsServed (ports_of net other) most_routes most_services (history_of histories other)) begins_fly)

    pub routes_fine : Ends → AllByRecursion (λ r. IsFine r.network) (offers (routes_held ports most_routes past))
    routes_fine end =
        at_last route_reading network_order network_total most_routes (map (λ p. p.route_share) ports) (λ r. r.hops) (λ r. refl) delay slack (λ r. IsFine r.network)
        (length beats) (route_facts ports past) long (end.routers router (length beats) within (omega arith) (omega arith)).routes

    pub services_fine : Ends → AllByRecursion (λ s. IsFineService IsFine IsServed s.service) (offers (services_held ports most_services past))
    services_fine end =
        at_last service_reading service_order service_total most_services (map (λ p. p.service_share) ports) (λ s. s.service.hops) (λ s. refl) delay slack
        (λ s. IsFineService IsFine IsServed s.service)
        (length beats) (service_facts ports past) long (end.routers router (length beats) within (omega arith) (omega arith)).services

  -- ---- networks

  pub no_route : (network : Network) → KeepGone net most_routes most_services delay network (flying histories deliveries) beats
      → EachWireStep (SaysOnly (IsWithoutRoute network)) beats → AllByRecursion (λ r. r.network ≢ network) (offers (routes_held ports most_routes past))
  no_route network gone says =
      routes_fine (OtherNetwork delay slack network) EveryService (ends (OtherNetwork delay slack network) EveryService
      (such_beats delay slack (OtherNetwork delay slack network) EveryService net laws is most_routes most_services (IsWithoutRoute network)
      (routeless delay slack network) (λ now. IsGone net now.histories network) (λ now gone. gone_stays net network now.histories gone)
      (flying histories deliveries) beats gone says))

  -- ---- services

  pub no_such_service : (key : ℕ × List ℕ) → EachWireStep (SaysOnly (IsWithoutService key)) beats
      → AllByRecursion (λ s. (s.service.kind, s.service.name) ≢ key) (offers (services_held ports most_services past))
  no_such_service key says =
      all_then (λ s. IsFineService EveryNetwork (OtherService delay slack key) s.service) (λ s. (s.service.kind, s.service.name) ≢ key) (λ s fine. fine.2)
      (offers (services_held ports most_services past))
      (services_fine EveryNetwork (OtherService delay slack key) (ends EveryNetwork (OtherService delay slack key)
      (such_beats delay slack EveryNetwork (OtherService delay slack key) net laws is most_routes most_services (IsWithoutService key)
      (serviceless delay slack key) AnyWires (λ now any at number on. tt) (flying histories deliveries) beats
      (each_all net most_routes most_services delay AnyWires (λ now. tt) (flying histories deliveries) beats) says)))
