-- No entry that goes out on a port is of a route that was learned there.
use Rattle.std.proofs.Common.{◌≡◌, ◌≢◌, sym, ap, ◌∙◌, subst, ℕ, ◌<◌, ◌==◌, not, Bool, true, false, true≢false, length, List, [], ◌∷◌, map, filter, Option, None, IfSome, inl, inr, arith}
use Rattle.std.specs.List.{AllByRecursion, find}
use Rattle.std.specs.List.Sorted.{IsStrictlyIncreasing}
use Rattle.std.specs.Ordering.{is_eq}
use Rattle.std.proofs.lemmas.Bool.{cases_Bool, eq-eqb, not-true}
use Rattle.ipx_wire.specs.declared.network.Network.{Network}
use Rattle.ipx_router.specs.Changes.{Change, change_at, changes, differs, put_keys}
use Rattle.ipx_router.specs.Horizon.{IsFromElsewhere}
use Rattle.ipx_router.specs.News.{same_route, route_told, route_now, news}
use Rattle.ipx_router.specs.Port.{Port, port_at}
use Rattle.ipx_router.specs.Relays.{IsTableRoute}
use Rattle.ipx_router.specs.Routes.{network_order}
use Rattle.ipx_router.specs.Sends.{every_route}
use Rattle.ipx_router.specs.Told.{is_reached_on, told}
use Rattle.ipx_router.specs.declared.route_offer.RouteOffer.{RouteOffer}
use Rattle.ipx_router.proofs.horizon.NothingOnDownPorts.{elsewhere}
use Rattle.ipx_router.proofs.telling.EachEntryHolds.{told_are}
use Rattle.ipx_router.proofs.lists.EachElement.{all_then, all_both, all-filter, all_passed, all-find, all-map, all-flat_map}
use Rattle.ipx_router.proofs.changes.ChangesFitFields.{anything}
use Rattle.ipx_router.proofs.port_values.PortOfEachNumber.{one_up}
use Rattle.ipx_router.proofs.relays.PortsRise.{IsRising, rising}
use Rattle.ipx_router.proofs.tables.HeldWasOffered.{nothing}
use Rattle.ipx_router.proofs.telling.LawsOfTold.{told-elsewhere}

-- ---- what is found

found_passes : {X : Type 0} (P : X → Type 0) (p : X → Bool) (xs : List X) → ((x : X) → p x ≡ true → P x) → IfSome (find p xs) P
found_passes P p [] passes = tt
found_passes P p (x ∷ xs) passes = elim (cases_Bool (p x)) [ inl e ↦ rw e (passes x e) | inr e ↦ rw e (found_passes P p xs passes) ]

none_found : {X : Type 0} (p : X → Bool) (xs : List X) → find p xs ≡ None → AllByRecursion (λ x. p x ≡ false) xs
none_found p [] none = tt
none_found p (x ∷ xs) none = elim (cases_Bool (p x)) [
  | inl e ↦ nothing (sym (rw e at none))
  | inr e ↦ (e, none_found p xs (rw e at none))
]

-- ---- one route to each network

-- no route to that network was learned on the port
abbrev AreElsewhere : List RouteOffer → ℕ → Network → Type 0
AreElsewhere routes port network = AllByRecursion (λ r. r.network ≡ network → r.port ≢ port) routes

-- if a route wasn't learned on the port, no other to its network was
abbrev IsAlone : List RouteOffer → ℕ → RouteOffer → Type 0
IsAlone routes port route = route.port ≢ port → AreElsewhere routes port route.network

of_routes : (n : ℕ) (routes : List RouteOffer) → AllByRecursion (λ m. n < m) (map (λ r. r.network.0) routes) → AllByRecursion (λ r. n < r.network.0) routes
of_routes n [] all = tt
of_routes n (r ∷ routes) all = (all.0, of_routes n routes all.1)

alone : (port : ℕ) (routes : List RouteOffer) → IsRising (map (λ r. r.network.0) routes) → AllByRecursion (IsAlone routes port) routes
alone port [] rise = tt
alone port (first ∷ routes) rise =
    let n = first.network.0 in
    let above = of_routes n routes rise.0 in (
      λ off. (
        λ e. off,
        all_then (λ r. n < r.network.0) (λ r. r.network ≡ first.network → r.port ≢ port)
            (λ r less e. absurd (omega (arith, less, ap (λ (k : Network). k.0) e))) routes above,
      ),
      all_then (λ r. (n < r.network.0) × IsAlone routes port r) (IsAlone (first ∷ routes) port)
          (λ r is off. (λ e. absurd (let less = is.0 in omega (arith, less, ap (λ (k : Network). k.0) e)), is.1 off)) routes
          (all_both (λ r. n < r.network.0) (IsAlone routes port) routes above (alone port routes rise.1)),
    )

module _ (ports : List Port) (routes : List RouteOffer) (table : AllByRecursion (IsTableRoute ports) routes)
    (rise : IsStrictlyIncreasing (map (λ r. r.network.0) routes)) (port : ℕ) where
  each_alone : AllByRecursion (IsAlone routes port) routes
  each_alone = alone port routes (rising (map (λ r. r.network.0) routes) rise)

  -- ---- one entry

  -- no route leads to all networks
  pub asking_elsewhere : IsFromElsewhere routes port every_route
  asking_elsewhere = grind (arith, all_then)

  -- nor to the network of a port
  pub direct_elsewhere : (other : ℕ) → other < length ports → AreElsewhere routes port (port_at ports other).network
  direct_elsewhere other exists = grind (arith, all_then, elsewhere)

  -- ---- what is advertised

  pub told_elsewhere : (up : List ℕ) → AllByRecursion (λ j. j < length ports) up → AllByRecursion (IsFromElsewhere routes port) (told ports up routes port)
  told_elsewhere up within =
      let others = filter (λ r. not (r.port == port)) routes in
      let kept : AllByRecursion (λ r. AreElsewhere routes port r.network) others =
      all_then (λ r. IsAlone routes port r × (not (r.port == port) ≡ true)) (λ r. AreElsewhere routes port r.network)
      (λ r is. is.0 (λ e. true≢false (sym (eq-eqb r.port port e) ∙ not-true (r.port == port) is.1))) others
      (all_passed (IsAlone routes port) (λ r. not (r.port == port)) routes each_alone) in
      subst (AllByRecursion (IsFromElsewhere routes port)) (told-elsewhere ports up routes port)
      (told_are (IsFromElsewhere routes port) (λ r. AreElsewhere routes port r.network) ports (λ r cost is. is) up others port
      (λ other cost there. direct_elsewhere other (one_up (λ j. j < length ports) up other within there)) kept)

  -- the networks of the ports alone
  pub ports_elsewhere : (up : List ℕ) → AllByRecursion (λ j. j < length ports) up → AllByRecursion (IsFromElsewhere routes port) (told ports up [] port)
  ports_elsewhere up within =
      told_are (IsFromElsewhere routes port) (λ r. AreElsewhere routes port r.network) ports (λ r cost is. is) up [] port
      (λ other cost there. direct_elsewhere other (one_up (λ j. j < length ports) up other within there)) tt

  -- ---- what changed

  now_elsewhere : (to : Port) (route : RouteOffer) → AreElsewhere routes port route.network → IsFromElsewhere routes port (route_now to route)
  now_elsewhere to route is = elim (cases_Bool (is_reached_on route.hops)) [ inl e ↦ rw e is | inr e ↦ rw e is ]

  -- if there is no later route, no route leads to the network of the earlier one
  abbrev IsGone : Option RouteOffer → RouteOffer → Type 0
  IsGone after route = after ≡ None → AreElsewhere routes port route.network

  change_elsewhere : (before after : Option RouteOffer) → IfSome before (IsGone after) → IfSome after (IsAlone routes port)
      → AllByRecursion (IsFromElsewhere routes port) (route_told ports port (record { before = before; after = after }))
  change_elsewhere before after gone is = grind (arith, now_elsewhere, eq-eqb)

  -- the route to a network among some
  abbrev is_to : Network → RouteOffer → Bool
  is_to network route = is_eq (network_order route.network network)

  gone_from : (network : Network) (route : RouteOffer) → is_to network route ≡ true → IsGone (find (is_to network) routes) route
  gone_from network route there none =
      all_then (λ r. is_to network r ≡ false) (λ r. r.network ≡ route.network → r.port ≢ port)
      (λ r other e. absurd (true≢false (sym there ∙ sym (ap (λ (n : Network). is_eq (network_order n network)) e) ∙ other))) routes
      (none_found (is_to network) routes none)

  pub news_elsewhere : (before : List RouteOffer) → AllByRecursion (IsFromElsewhere routes port) (news ports before routes port)
  news_elsewhere before =
      let key : RouteOffer → Network = λ r. r.network in
      let keys = put_keys key network_order same_route before (put_keys key network_order same_route routes []) in
      let IsSplit : Change RouteOffer → Type 0 = λ c. AllByRecursion (IsFromElsewhere routes port) (route_told ports port c) in
      all-flat_map IsSplit (IsFromElsewhere routes port) (route_told ports port) (λ c is. is) (changes key network_order same_route before routes)
      (all-filter IsSplit (differs key network_order same_route) (map (change_at key network_order same_route before routes) keys)
      (all-map (λ n. Unit {0}) IsSplit (change_at key network_order same_route before routes)
      (λ n here. change_elsewhere (find (is_to n) before) (find (is_to n) routes)
      (found_passes (IsGone (find (is_to n) routes)) (is_to n) before (gone_from n)) (all-find (IsAlone routes port) (is_to n) routes each_alone))
      keys (anything keys)))
