-- Once nothing alive is said, a key that is told of as unreachable is held by one router less after each round.
use Rattle.std.proofs.Common.{◌≡◌, refl, sym, ap, ◌∙◌, ℕ, zero, suc, ◌+◌, ◌<◌, ◌≤◌, true, List, [], ◌∷◌, ◌++◌, length, Some, None, IfSome, is_some, inl, inr, arith, is_eq, rules}
use Rattle.std.specs.List.{AllByRecursion}
use Rattle.std.proofs.lemmas.Bool.{cases_lt, le-leb}
use Rattle.ipx_wire.specs.declared.network.Network.{Network}
use Rattle.ipx_wire.specs.declared.rip.RipEntry.{RipEntry}
use Rattle.ipx_wire.specs.declared.sap.Sap.TheVariants.{Query, Response}
use Rattle.ipx_wire.specs.declared.sap_entries.SapEntry.{SapEntry}
use Rattle.ipx_wire.specs.declared.service.Service.{Service}
use Rattle.ipx_router.specs.Changes.{Change}
use Rattle.ipx_router.specs.Facts.{heard_after, routes_held, services_held, offers}
use Rattle.ipx_router.specs.Heard.{Heard, HeardRip, HeardSap}
use Rattle.ipx_router.specs.History.{Event, History, Packet}
use Rattle.ipx_router.specs.Numbers.{unreachable}
use Rattle.ipx_router.specs.Routes.{route_reading, network_order}
use Rattle.ipx_router.specs.Services.{service_reading, service_order}
use Rattle.ipx_router.specs.Told.{entry_of, dead, dead_service}
use Rattle.ipx_router.specs.inside.Touched.{offer_at}
use Rattle.ipx_router.specs.declared.route_offer.RouteOffer.{RouteOffer}
use Rattle.ipx_router.specs.declared.service_offer.ServiceOffer.{ServiceOffer}
use Rattle.ipx_router.proofs.bounds.PacketsOfEachEvent.{network_total, service_total}
use Rattle.ipx_internet.specs.Internet.{Internet, IsInternet, ports_of, port_of}
use Rattle.ipx_internet.specs.Queue.{Delivery, Queued, history_of}
use Rattle.ipx_internet.specs.Rounds.{IsDelivery, round, rounds}
use Rattle.ipx_internet.specs.Run.{AreHistories}
use Rattle.ipx_internet.proofs.deliveries.WaitsAfterDelivery.{there, keeps_histories}
use Rattle.ipx_internet.proofs.lists.EachElement.{all_of, all_then}
use Rattle.ipx_internet.proofs.lists.FoundInAList.{found, it_is}
use Rattle.ipx_internet.proofs.packets.SentOnOrReply.{Layouts}
use Rattle.ipx_internet.proofs.records.HeardChangesItsKeys.{EachHeard, routes_left, services_left}
use Rattle.ipx_internet.proofs.records.KeptOrOffered.{Told, Left}
use Rattle.ipx_internet.proofs.rounds.ChangesAreOneHopMore.{Live, RouteTold, ServiceTold, news_all, news_services_all}
use Rattle.ipx_internet.proofs.rounds.NoMoreHolders.{had_before, holders, holders_most, holders_alike, holders_fewer, one_holder_less}
use Rattle.ipx_internet.proofs.rounds.OneHopMoreARound.{Ebbs}
use Rattle.ipx_internet.proofs.rounds.OneRound.{happened, sent_for, Steps, Holds, rounded}
use Rattle.ipx_internet.proofs.rounds.RepliesTellChanges.{Says, Tells, IsTold, tells_says, tells_more, heard_says, telling}
use Rattle.ipx_internet.proofs.rounds.SentOnRunsOut.{Calm}

-- what is alive at sixteen hops isn't
pub unreachable_live : (hops : ℕ) → Live unreachable hops → unreachable ≤ hops
unreachable_live hops live = elim (cases_lt hops unreachable) [ inl near ↦ live near | inr far ↦ far ]

module _ (net : Internet) (laws : Layouts) (is : IsInternet net) (most_routes most_services : ℕ) where
  -- how many routers hold a network, and a service
  abbrev pub routes : List History → Network → ℕ
  routes histories key =
      holders route_reading network_order network_total (λ router history. offers (routes_held (ports_of net router) most_routes history)) (length net) histories key

  abbrev pub services : List History → ℕ × List ℕ → ℕ
  services histories key =
      holders service_reading service_order service_total (λ router history. offers (services_held (ports_of net router) most_services history)) (length net) histories key

  -- entries that say that nothing is reached, of keys that at most so many routers hold as there are less some
  abbrev pub DeadEntry : List History → ℕ → RipEntry → Type 0
  DeadEntry histories t e = (unreachable ≤ e.hops) × (routes histories e.network + t ≤ length net)

  abbrev pub DeadSap : List History → ℕ → SapEntry → Type 0
  DeadSap histories t e = (unreachable ≤ e.hops) × ((name : List ℕ) → e.name ≡ Some name → services histories (e.kind, name) + t ≤ length net)

  abbrev pub DeadService : List History → ℕ → Service → Type 0
  DeadService histories t s = (unreachable ≤ s.hops) × (services histories (s.kind, s.name) + t ≤ length net)

  -- a reply that says so
  pub record Dying (t : ℕ) (histories : List History) (d : Delivery) : Type 0 where
    pub calm : Calm net laws is most_routes most_services d
    pub says : Says (DeadEntry histories t) (DeadSap histories t) d.bytes

  -- a reply that was written so
  pub record Dead (t : ℕ) (histories : List History) (d : Delivery) : Type 0 where
    pub calm : Calm net laws is most_routes most_services d
    pub tells : Tells (DeadEntry histories t) (DeadService histories t) d.bytes

  dead_dying : (t : ℕ) (histories : List History) (d : Delivery) → Dead t histories d → Dying t histories d
  dead_dying t histories d dead = record {
    calm = dead.calm;
    says =
        tells_says (DeadEntry histories t) (DeadService histories t) (DeadEntry histories t) (DeadSap histories t) (λ e it. it)
        (λ s it. (it.0, λ name same. it_is (λ n. services histories (s.kind, n) + t ≤ length net) name s.name same it.1)) d.bytes dead.tells;
  }

  -- no key is held by more routers than when the round began
  pub record Fewer (begun histories : List History) : Type 0 where
    pub are : AreHistories net histories
    pub routes_fewer : (key : Network) → routes histories key ≤ routes begun key
    pub services_fewer : (key : ℕ × List ℕ) → services histories key ≤ services begun key

  module _ (begun : List History) (t : ℕ) (histories : List History) (d : Delivery) (fewer : Fewer begun histories) (old : Dying t begun d) where
    abbrev router : ℕ
    router = d.to.router

    abbrev event : Event
    event = Packet d.to.port d.bytes

    abbrev past : History
    past = history_of histories router

    abbrev now : History
    now = past ++ event ∷ []

    abbrev new : List History
    new = happened net most_routes most_services histories d

    within : router < length net
    within = there net laws is most_routes most_services histories fewer.are d old.calm.0

    listed : router < length histories
    listed = omega (arith, there, within)

    heard : IfSome (heard_after (ports_of net router) past d.to.port d.bytes) (EachHeard (DeadEntry begun t) (DeadSap begun t))
    heard = heard_says net laws is most_routes most_services histories fewer.are d old.calm (DeadEntry begun t) (DeadSap begun t) old.says

    -- ---- routes

    abbrev P : RouteOffer → Type 0
    P r = (unreachable ≤ r.hops) × (routes begun r.network + t ≤ length net)

    abbrev Q : ServiceOffer → Type 0
    Q s = (unreachable ≤ s.service.hops) × (services begun (s.service.kind, s.service.name) + t ≤ length net)

    abbrev held_routes : ℕ → History → List RouteOffer
    held_routes j history = offers (routes_held (ports_of net j) most_routes history)

    abbrev held_services : ℕ → History → List ServiceOffer
    held_services j history = offers (services_held (ports_of net j) most_services history)

    left_routes : (key : Network)
        → Left route_reading network_order P key (offer_at route_reading.key network_order key (held_routes router past)) (offer_at route_reading.key network_order key (held_routes router now))
    left_routes =
        routes_left (DeadEntry begun t) (DeadSap begun t) P Q d.to.port (λ node e it. it) (λ node e name named it. (it.0, it.1 name named))
        (ports_of net router) past d.bytes heard most_routes

    had_route : (key : Network) → is_some (offer_at route_reading.key network_order key (held_routes router now)) ≡ true
        → is_some (offer_at route_reading.key network_order key (held_routes router past)) ≡ true
    had_route key = grind (arith, had_before, network_total, le-leb, left_routes)

    routes_after : (key : Network) → routes new key ≤ routes histories key
    routes_after key = holders_fewer route_reading network_order network_total held_routes (length net) histories router event listed key (had_route key)

    route_ended : (c : Change RouteOffer) (route : RouteOffer) → RouteTold P (held_routes router past) (held_routes router now) left_routes c
        → c.before ≡ Some route → c.after ≡ None → DeadEntry new (suc t) (dead (entry_of route))
    route_ended c route told was gone =
        let key = told.key in
        let was_held = sym told.was ∙ was in
        let one_less =
        one_holder_less route_reading network_order network_total held_routes (length net) histories router event listed key (had_route key) within
        (ap is_some (sym told.is ∙ gone)) (ap is_some was_held) in
        let of_key : is_eq (network_order route.network key) ≡ true =
        (found (λ r. Unit {0}) (λ r. is_eq (network_order r.network key)) (held_routes router past) route
        (all_of (λ r. Unit {0}) (λ r. tt) (held_routes router past)) was_held).1 in
        let same = holders_alike route_reading network_order network_total held_routes (length net) new route.network key of_key in
        let told_same = holders_alike route_reading network_order network_total held_routes (length net) begun told.told.offer.network key told.told.of_key in
        let bound = told.told.such.1 in
        let before_it = fewer.routes_fewer key in
        (omega arith, omega (arith, one_less, same, told_same, bound, before_it))

    never_route : (key : Network) (route : RouteOffer) → Told route_reading network_order P key (Some route) → ⊥
    never_route key route told = grind arith

    -- ---- services

    left_services : (key : ℕ × List ℕ)
        → Left service_reading service_order Q key (offer_at service_reading.key service_order key (held_services router past))
        (offer_at service_reading.key service_order key (held_services router now))
    left_services =
        services_left (DeadEntry begun t) (DeadSap begun t) P Q d.to.port (λ node e it. it) (λ node e name named it. (it.0, it.1 name named))
        (ports_of net router) past d.bytes heard most_services

    had_service : (key : ℕ × List ℕ) → is_some (offer_at service_reading.key service_order key (held_services router now)) ≡ true
        → is_some (offer_at service_reading.key service_order key (held_services router past)) ≡ true
    had_service key = grind (arith, had_before, service_total, le-leb, left_services)

    services_after : (key : ℕ × List ℕ) → services new key ≤ services histories key
    services_after key = holders_fewer service_reading service_order service_total held_services (length net) histories router event listed key (had_service key)

    service_ended : (c : Change ServiceOffer) (offer : ServiceOffer) → ServiceTold Q (held_services router past) (held_services router now) left_services c
        → c.before ≡ Some offer → c.after ≡ None → DeadService new (suc t) (dead_service offer.service)
    service_ended c offer told was gone =
        let key = told.key in
        let own = service_reading.key offer in
        let was_held = sym told.was ∙ was in
        let one_less =
        one_holder_less service_reading service_order service_total held_services (length net) histories router event listed key (had_service key) within
        (ap is_some (sym told.is ∙ gone)) (ap is_some was_held) in
        let of_key : is_eq (service_order own key) ≡ true =
        (found (λ s. Unit {0}) (λ s. is_eq (service_order (service_reading.key s) key)) (held_services router past) offer
        (all_of (λ s. Unit {0}) (λ s. tt) (held_services router past)) was_held).1 in
        let same = holders_alike service_reading service_order service_total held_services (length net) new own key of_key in
        let told_same = holders_alike service_reading service_order service_total held_services (length net) begun (service_reading.key told.told.offer) key told.told.of_key in
        let bound = told.told.such.1 in
        let before_it = fewer.services_fewer key in
        (omega arith, omega (arith, one_less, same, told_same, bound, before_it))

    never_service : (key : ℕ × List ℕ) (offer : ServiceOffer) → Told service_reading service_order Q key (Some offer) → ⊥
    never_service key offer told = grind arith

    -- ---- what is sent

    dead_then : AllByRecursion (Dead (suc t) new) (sent_for net most_routes most_services histories d)
    dead_then =
        let A = DeadEntry new (suc t) in
        let B = DeadService new (suc t) in
        all_then (λ e. IsDelivery net e × IsTold A B (port_of net e.to) e.bytes) (Dead (suc t) new)
        (λ e both. record { calm = (both.0, both.1.reply); tells = both.1.tells }) (sent_for net most_routes most_services histories d)
        (telling net laws is most_routes most_services histories fewer.are d old.calm A B
        (λ j. news_all P (held_routes router past) (held_routes router now) left_routes A (ports_of net router) j
        (λ key route told other. absurd (never_route key route told)) route_ended)
        (λ j. news_services_all Q (held_services router past) (held_services router now) left_services B j
        (λ key offer told other. absurd (never_service key offer told)) service_ended))

    fewer_still : Fewer begun new
    fewer_still = record {
      are = keeps_histories net laws is most_routes most_services histories fewer.are d old.calm.0;
      routes_fewer = λ key.
          let here = routes_after key in
          let before_it = fewer.routes_fewer key in
          omega (arith, here, before_it);
      services_fewer = λ key.
          let here = services_after key in
          let before_it = fewer.services_fewer key in
          omega (arith, here, before_it);
    }

    -- what waits stays so
    dead_still : (other : Delivery) → Dead (suc t) histories other → Dead (suc t) new other
    dead_still other dead = record {
      calm = dead.calm;
      tells =
          tells_more (DeadEntry histories (suc t)) (DeadEntry new (suc t)) (DeadService histories (suc t)) (DeadService new (suc t))
          (λ e it.
          let here = routes_after e.network in
          let bound = it.1 in
          (it.0, omega (arith, here, bound)))
          (λ s it.
          let here = services_after (s.kind, s.name) in
          let bound = it.1 in
          (it.0, omega (arith, here, bound))) other.bytes dead.tells;
    }

  dying : (begun : List History) (t : ℕ) → Steps net most_routes most_services (Fewer begun) (Dying t begun) (Dead (suc t))
  dying begun t = search (rules, fewer_still, dead_then, dead_still)

  -- one round
  next : (t : ℕ) (q : Queued) → AreHistories net q.histories → AllByRecursion (Dying t q.histories) q.queue
      → Holds net most_routes most_services (AreHistories net) (Dead (suc t)) (round net most_routes most_services q)
  next t q are all =
      let fewest : Fewer q.histories q.histories = record { are = are; routes_fewer = λ key. omega arith; services_fewer = λ key. omega arith } in
      let after = rounded net most_routes most_services (Fewer q.histories) (Dying t q.histories) (Dead (suc t)) (dying q.histories t) q fewest all in
      record { histories = after.histories.are; queue = after.queue }

  pub died : (t : ℕ) (q : Queued) → AreHistories net q.histories → AllByRecursion (Dying 0 q.histories) q.queue
      → Holds net most_routes most_services (AreHistories net) (Dead (suc t)) (rounds net most_routes most_services (suc t) q)
  died zero q are all = next 0 q are all
  died (suc t) q are all = search (rules, died t q are all, next, all_then, dead_dying)

  -- ---- the first of these rounds

  at_first : (histories : List History) (m : Heard) → EachHeard (λ e. Live unreachable e.hops) (λ e. Live unreachable e.hops) m
      → EachHeard (DeadEntry histories 0) (DeadSap histories 0) m
  at_first histories (HeardRip source rip) all =
      all_then (λ e. Live unreachable e.hops) (DeadEntry histories 0)
      (λ e live.
      let few = holders_most route_reading network_order network_total (λ j history. offers (routes_held (ports_of net j) most_routes history)) (length net) histories e.network in
      (unreachable_live e.hops live, omega (arith, few))) rip.entries all
  at_first histories (HeardSap source (Query nearest kind)) all = tt
  at_first histories (HeardSap source (Response nearest entries)) all =
      all_then (λ e. Live unreachable e.hops) (DeadSap histories 0)
      (λ e live. (
        unreachable_live e.hops live,
        λ name same.
            let few = holders_most service_reading service_order service_total (λ j history. offers (services_held (ports_of net j) most_services history)) (length net) histories (e.kind, name) in
            omega (arith, few),
      )) entries all

  pub ebbed_out : (histories : List History) (d : Delivery) → Ebbs net laws is most_routes most_services unreachable d → Dying 0 histories d
  ebbed_out histories d ebbs = record { calm = ebbs.calm; says = λ p m read e. at_first histories m (ebbs.says p m read e) }

  -- ---- the last one

  none_left : (histories : List History) (d : Delivery) → Dead (suc (length net)) histories d → ⊥
  none_left histories d dead = by dead.tells
    where
      no_entry : (page : List RipEntry) → 1 ≤ length page → AllByRecursion (DeadEntry histories (suc (length net))) page → ⊥
      no_entry [] some all = omega (arith, some)
      no_entry (e ∷ page) some all = let bound = all.0.1 in omega (arith, bound)

      no_service : (page : List Service) → 1 ≤ length page → AllByRecursion (DeadService histories (suc (length net))) page → ⊥
      no_service [] some all = omega (arith, some)
      no_service (s ∷ page) some all = let bound = all.0.1 in omega (arith, bound)

      by : Tells (DeadEntry histories (suc (length net))) (DeadService histories (suc (length net))) d.bytes → ⊥
      by (inl tells) = no_entry tells.page.page tells.page.some tells.page.each
      by (inr tells) = no_service tells.page.page tells.page.some tells.page.each

  pub nothing_waits : (histories : List History) (queue : List Delivery) → AllByRecursion (Dead (suc (length net)) histories) queue → queue ≡ []
  nothing_waits histories [] all = refl
  nothing_waits histories (d ∷ queue) all = absurd (none_left histories d all.0)
