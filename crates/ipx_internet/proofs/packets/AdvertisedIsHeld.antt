-- What a router advertises on a port of what it holds: each entry is that of another port that is up, or of a route that was learned
-- elsewhere, one hop farther, or says that nothing is reached; services likewise.
use Rattle.std.proofs.Common.{◌≡◌, ℕ, ◌==◌, not, if◌then◌else◌, Bool, true, false, List, [], ◌∷◌, ◌++◌, map, filter, Option, Some, None, IfSome, inl, inr, is_eq, arith}
use Rattle.std.specs.List.{AllByRecursion}
use Rattle.std.specs.declared.cmp.Ordering.{Ordering}
use Rattle.std.proofs.lemmas.Bool.{cases_Bool, and_parts, not-true}
use Rattle.ipx_wire.specs.declared.rip.RipEntry.{RipEntry}
use Rattle.ipx_wire.specs.declared.service.Service.{Service}
use Rattle.ipx_router.specs.Changes.{change_at, changes, differs, put_keys}
use Rattle.ipx_router.specs.News.{route_now, route_told, news, service_now, service_told, news_services, same_route, same_service}
use Rattle.ipx_router.specs.Port.{Port, port_at, is_up}
use Rattle.ipx_router.specs.Routes.{network_order}
use Rattle.ipx_router.specs.Services.{service_order}
use Rattle.ipx_router.specs.Told.{network_before, name_before, is_reached_on, told_at, dead, farther, dead_service, direct_entry, direct, entry_of, is_route_told, learned, told, is_service_told, told_services}
use Rattle.ipx_router.specs.declared.route_offer.RouteOffer.{RouteOffer}
use Rattle.ipx_router.specs.declared.service_offer.ServiceOffer.{ServiceOffer}
use Rattle.ipx_router.proofs.lists.EachElement.{all-find, all_sorted}
use Rattle.ipx_router.proofs.port_values.PortOfEachNumber.{members}
use Rattle.ipx_internet.proofs.lists.EachElement.{all_of, all_passed, all-append, all-filter, all-map, all-flat_map}

-- of each change, what is there afterwards is one of those afterwards
all_after : {O K : Type 0} (P : O → Type 0) (key_of : O → K) (order : K → K → Ordering) (same : O → O → Bool) (before after : List O) → AllByRecursion P after
    → AllByRecursion (λ c. IfSome c.after P) (changes key_of order same before after)
all_after P key_of order same before after all =
    let keys = put_keys key_of order same before (put_keys key_of order same after []) in
    all-filter (λ c. IfSome c.after P) (differs key_of order same) (map (change_at key_of order same before after) keys)
    (all-map (λ key. Unit {0}) (λ c. IfSome c.after P) (change_at key_of order same before after)
    (λ key here. all-find P (λ o. is_eq (order (key_of o) key)) after all) keys (all_of (λ key. Unit {0}) (λ key. tt) keys))

-- nothing, or one item where a test fails
pub unless : {X : Type 0} (P : X → Type 0) (c : Bool) (x : X) → (c ≡ false → P x) → AllByRecursion P (if c then [] else x ∷ [])
unless P c x step = grind arith

-- ---- routes

module _ (ports : List Port) (up : List ℕ) (A : ℕ → RipEntry → Type 0) (K : RouteOffer → Type 0)
    (beside : (j other : ℕ) → is_up up other ≡ true → (other == j) ≡ false → A j (told_at (port_at ports j).cost (direct_entry ports other)))
    (route : (j : ℕ) (r : RouteOffer) → K r → (r.port == j) ≡ false → A j (told_at (port_at ports j).cost (entry_of r)))
    (gone : (j : ℕ) (e : RipEntry) → A j (dead e)) where
  pub told_all : (routes : List RouteOffer) → AllByRecursion K routes → (j : ℕ) → AllByRecursion (A j) (told ports up routes j)
  told_all routes all j =
      let cost = (port_at ports j).cost in
      let others = filter (λ other. not (other == j)) up in
      let Told : RipEntry → Type 0 = λ e. A j (told_at cost e) in
      all_sorted (A j) network_before (map (told_at cost) (direct ports up j ++ learned routes j))
      (all-map Told (A j) (told_at cost) (λ e is. is) (direct ports up j ++ learned routes j)
      (all-append Told (direct ports up j) (learned routes j)
      (all-map (λ other. (is_up up other ≡ true) × (not (other == j) ≡ true)) Told (direct_entry ports)
      (λ other both. beside j other both.0 (not-true (other == j) both.1)) others (all_passed (λ other. is_up up other ≡ true) (λ other. not (other == j)) up (members up)))
      (all-map (λ r. K r × (is_route_told j r ≡ true)) Told entry_of
      (λ r both. route j r both.0 (not-true (r.port == j) (and_parts (not (r.port == j)) (is_reached_on r.hops) both.1).0))
      (filter (is_route_told j) routes) (all_passed K (is_route_told j) routes all))))

  pub news_told : (before after : List RouteOffer) → AllByRecursion K after → (j : ℕ) → AllByRecursion (A j) (news ports before after j)
  news_told before after all j =
      all-flat_map (λ c. IfSome c.after K) (A j) (route_told ports j) (λ c is. each c.before c.after is) (changes (λ r. r.network) network_order same_route before after)
      (all_after K (λ r. r.network) network_order same_route before after all)
    where
      now : (r : RouteOffer) → K r → (r.port == j) ≡ false → A j (route_now (port_at ports j) r)
      now r is other = elim (cases_Bool (is_reached_on r.hops)) [
        | inl e ↦ rw e (route j r is other)
        | inr e ↦ rw e (gone j (entry_of r))
      ]

      each : (old new : Option RouteOffer) → IfSome new K → AllByRecursion (A j) (route_told ports j (record { before = old; after = new }))
      each old (Some r) is = unless (A j) (r.port == j) (route_now (port_at ports j) r) (now r is)
      each (Some r) None is = unless (A j) (r.port == j) (dead (entry_of r)) (λ other. gone j (entry_of r))
      each None None is = tt

-- ---- services

module _ (B : Service → Type 0) (L : ServiceOffer → Type 0) (service : (s : ServiceOffer) → L s → B (farther s.service))
    (gone : (s : Service) → B (dead_service s)) where
  pub told_services_all : (services : List ServiceOffer) → AllByRecursion L services → (j : ℕ) → AllByRecursion B (told_services services j)
  told_services_all services all j =
      all_sorted B name_before (map (λ s. farther s.service) (filter (is_service_told j) services))
      (all-map L B (λ s. farther s.service) service (filter (is_service_told j) services) (all-filter L (is_service_told j) services all))

  pub news_services_told : (before after : List ServiceOffer) → AllByRecursion L after → (j : ℕ) → AllByRecursion B (news_services before after j)
  news_services_told before after all j =
      all-flat_map (λ c. IfSome c.after L) B (service_told j) (λ c is. each c.before c.after is)
      (changes (λ s. (s.service.kind, s.service.name)) service_order same_service before after)
      (all_after L (λ s. (s.service.kind, s.service.name)) service_order same_service before after all)
    where
      now : (s : ServiceOffer) → L s → B (service_now s)
      now s is = elim (cases_Bool (is_reached_on s.service.hops)) [
        | inl e ↦ rw e (service s is)
        | inr e ↦ rw e (gone s.service)
      ]

      each : (old new : Option ServiceOffer) → IfSome new L → AllByRecursion B (service_told j (record { before = old; after = new }))
      each old (Some s) is = unless B (s.port == j) (service_now s) (λ other. now s is)
      each (Some s) None is = unless B (s.port == j) (dead_service s.service) (λ other. gone s.service)
      each None None is = tt
