-- What is advertised of changes at once, where each is of an offer that came in the event: if it says that anything is reached, that
-- offer says so one hop nearer.
use Rattle.std.proofs.Common.{◌≡◌, refl, sym, subst, ◌⊎◌, ℕ, suc, ◌<◌, ◌≤◌, ◌==◌, false, List, [], ◌∷◌, ◌++◌, Option, Some, None, IfSome, inl, inr, arith}
use Rattle.std.specs.List.{AllByRecursion}
use Rattle.std.proofs.lemmas.Bool.{leb-false}
use Rattle.ipx_wire.specs.declared.network.Network.{Network}
use Rattle.ipx_wire.specs.declared.rip.RipEntry.{RipEntry}
use Rattle.ipx_wire.specs.declared.service.Service.{Service}
use Rattle.ipx_router.specs.Changes.{Change, changes}
use Rattle.ipx_router.specs.Facts.{heard_after, routes_held, services_held, offers}
use Rattle.ipx_router.specs.History.{History, Packet}
use Rattle.ipx_router.specs.News.{route_now, route_told, news, service_now, service_told, news_services, same_route, same_service}
use Rattle.ipx_router.specs.Numbers.{unreachable}
use Rattle.ipx_router.specs.Port.{Port, port_at}
use Rattle.ipx_router.specs.Routes.{route_reading, network_order}
use Rattle.ipx_router.specs.Services.{service_reading, service_order}
use Rattle.ipx_router.specs.Told.{entry_of, dead, dead_service}
use Rattle.ipx_router.specs.inside.Touched.{offer_at}
use Rattle.ipx_router.specs.declared.route_offer.RouteOffer.{RouteOffer}
use Rattle.ipx_router.specs.declared.service_offer.ServiceOffer.{ServiceOffer}
use Rattle.ipx_router.proofs.telling.LawsOfTold.{route-same, service-same}
use Rattle.ipx_internet.proofs.lists.EachElement.{all-flat_map}
use Rattle.ipx_internet.proofs.lists.FoundInAList.{nothing, it_is}
use Rattle.ipx_internet.proofs.packets.AdvertisedIsHeld.{unless}
use Rattle.ipx_internet.proofs.records.ChangedWasOffered.{ToldOf, changed}
use Rattle.ipx_internet.proofs.records.HeardChangesItsKeys.{EachHeard, routes_left, services_left}
use Rattle.ipx_internet.proofs.records.KeptOrOffered.{Told, Left}

-- ---- what is said of each change

-- routes
module _ (P : RouteOffer → Type 0) (before after : List RouteOffer)
    (lefts : (key : Network) → Left route_reading network_order P key (offer_at route_reading.key network_order key before) (offer_at route_reading.key network_order key after)) where
  abbrev pub RouteTold : Change RouteOffer → Type 0
  RouteTold c = ToldOf route_reading network_order same_route route-same P before after c

  pub news_all : (A : RipEntry → Type 0) (ports : List Port) (number : ℕ)
      → ((key : Network) (route : RouteOffer) → Told route_reading network_order P key (Some route) → (route.port == number) ≡ false → A (route_now (port_at ports number) route))
      → ((c : Change RouteOffer) (route : RouteOffer) → RouteTold c → c.before ≡ Some route → c.after ≡ None → A (dead (entry_of route)))
      → AllByRecursion A (news ports before after number)
  news_all A ports number now ended =
      all-flat_map RouteTold A (route_told ports number) (λ c told. each c c.before c.after refl refl told) (changes route_reading.key network_order same_route before after)
      (changed route_reading network_order same_route route-same P before after lefts)
    where
      each : (c : Change RouteOffer) (old new : Option RouteOffer) → c.before ≡ old → c.after ≡ new → RouteTold c
          → AllByRecursion A (route_told ports number (record { before = old; after = new }))
      each c old (Some route) was is told =
          unless A (route.port == number) (route_now (port_at ports number) route)
          (now told.key route (subst (λ (o : Option RouteOffer). Told route_reading network_order P told.key o) is told.told))
      each c (Some route) None was is told = unless A (route.port == number) (dead (entry_of route)) (λ other. ended c route told was is)
      each c None None was is told = tt

-- services
module _ (Q : ServiceOffer → Type 0) (before after : List ServiceOffer)
    (lefts : (key : ℕ × List ℕ) → Left service_reading service_order Q key (offer_at service_reading.key service_order key before) (offer_at service_reading.key service_order key after)) where
  abbrev pub ServiceTold : Change ServiceOffer → Type 0
  ServiceTold c = ToldOf service_reading service_order same_service service-same Q before after c

  pub news_services_all : (A : Service → Type 0) (number : ℕ)
      → ((key : ℕ × List ℕ) (offer : ServiceOffer) → Told service_reading service_order Q key (Some offer) → (offer.port == number) ≡ false → A (service_now offer))
      → ((c : Change ServiceOffer) (offer : ServiceOffer) → ServiceTold c → c.before ≡ Some offer → c.after ≡ None → A (dead_service offer.service))
      → AllByRecursion A (news_services before after number)
  news_services_all A number now ended =
      all-flat_map ServiceTold A (service_told number) (λ c told. each c c.before c.after refl refl told) (changes service_reading.key service_order same_service before after)
      (changed service_reading service_order same_service service-same Q before after lefts)
    where
      each : (c : Change ServiceOffer) (old new : Option ServiceOffer) → c.before ≡ old → c.after ≡ new → ServiceTold c
          → AllByRecursion A (service_told number (record { before = old; after = new }))
      each c old (Some offer) was is told =
          unless A (offer.port == number) (service_now offer)
          (now told.key offer (subst (λ (o : Option ServiceOffer). Told service_reading service_order Q told.key o) is told.told))
      each c (Some offer) None was is told = unless A (offer.port == number) (dead_service offer.service) (λ other. ended c offer told was is)
      each c None None was is told = tt

-- ---- what is alive

-- hops that, if they are those of something alive, are at least as many
abbrev pub Live : ℕ → ℕ → Type 0
Live least hops = hops < unreachable → least ≤ hops

-- the route that a key is left with is one that came, alive
pub route_left : (P : RouteOffer → Type 0) (key : Network) (route : RouteOffer) → Told route_reading network_order P key (Some route) → P route × (route.hops < unreachable)
route_left P key route told = by told.left
  where
    by : (Some route ≡ None) ⊎ ((Some route ≡ Some told.offer) × (route_reading.is_down told.offer ≡ false)) → P route × (route.hops < unreachable)
    by (inl none) = nothing (sym none)
    by (inr (same, up)) = it_is (λ r. P r × (r.hops < unreachable)) route told.offer (sym same) (told.such, leb-false unreachable told.offer.hops up)

pub service_left : (Q : ServiceOffer → Type 0) (key : ℕ × List ℕ) (offer : ServiceOffer) → Told service_reading service_order Q key (Some offer)
    → Q offer × (offer.service.hops < unreachable)
service_left Q key offer told = by told.left
  where
    by : (Some offer ≡ None) ⊎ ((Some offer ≡ Some told.offer) × (service_reading.is_down told.offer ≡ false)) → Q offer × (offer.service.hops < unreachable)
    by (inl none) = nothing (sym none)
    by (inr (same, up)) =
        it_is (λ (s : ServiceOffer). Q s × (s.service.hops < unreachable)) offer told.offer (sym same) (told.such, leb-false unreachable told.offer.service.hops up)

module _ (least : ℕ) where
  dead_live : Live (suc least) unreachable
  dead_live near = absurd (omega (arith, near))

  now_live : (port : Port) (route : RouteOffer) → least ≤ route.hops → Live (suc least) (route_now port route).hops
  now_live port route far = grind arith

  now_service_live : (offer : ServiceOffer) → least ≤ offer.service.hops → Live (suc least) (service_now offer).hops
  now_service_live offer far = grind arith

  module _ (ports : List Port) (history : History) (number : ℕ) (bytes : List ℕ)
      (all : IfSome (heard_after ports history number bytes) (EachHeard (λ e. Live least e.hops) (λ e. Live least e.hops))) (capacity : ℕ) where
    pub news_farther : (j : ℕ) → AllByRecursion (λ e. Live (suc least) e.hops)
        (news ports (offers (routes_held ports capacity history)) (offers (routes_held ports capacity (history ++ Packet number bytes ∷ []))) j)
    news_farther j =
        let P : RouteOffer → Type 0 = λ r. Live least r.hops in
        news_all P (offers (routes_held ports capacity history)) (offers (routes_held ports capacity (history ++ Packet number bytes ∷ [])))
        (routes_left (λ e. Live least e.hops) (λ e. Live least e.hops) P (λ s. Live least s.service.hops) number (λ node e is. is) (λ node e name named is. is)
        ports history bytes all capacity)
        (λ e. Live (suc least) e.hops) ports j
        (λ key route told other. let left = route_left P key route told in now_live (port_at ports j) route (left.0 left.1))
        (λ c route told was is. dead_live)

    pub news_services_farther : (j : ℕ) → AllByRecursion (λ s. Live (suc least) s.hops)
        (news_services (offers (services_held ports capacity history)) (offers (services_held ports capacity (history ++ Packet number bytes ∷ []))) j)
    news_services_farther j =
        let Q : ServiceOffer → Type 0 = λ s. Live least s.service.hops in
        news_services_all Q (offers (services_held ports capacity history)) (offers (services_held ports capacity (history ++ Packet number bytes ∷ [])))
        (services_left (λ e. Live least e.hops) (λ e. Live least e.hops) (λ r. Live least r.hops) Q number (λ node e is. is) (λ node e name named is. is)
        ports history bytes all capacity)
        (λ s. Live (suc least) s.hops) j
        (λ key offer told other. let left = service_left Q key offer told in now_service_live offer (left.0 left.1))
        (λ c offer told was is. dead_live)
