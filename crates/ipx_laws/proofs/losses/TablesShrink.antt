-- A table that shrinks: each network has the route that it had before, or none. So it is where nothing comes but dead offers, where a port
-- ends, and where all ends; and a dead offer ends the route that came from its source.
use Rattle.std.proofs.Common.{◌≡◌, refl, sym, ap, ◌∙◌, subst, ◌⊎◌, ℕ, suc, ◌≤◌, Bool, true, false, List, [], ◌∷◌, ◌++◌, length, map, filter, find, Option, None, Some, option_map, inl, inr, arith, append_assoc, is_eq}
use Rattle.std.specs.List.{AllByRecursion}
use Rattle.std.proofs.lemmas.Bool.{cases_Bool, and_from, both_ways, eq-eqb, le-leb}
use Rattle.ipx_table.specs.Accepted.{marked}
use Rattle.ipx_table.specs.Alive.{alive}
use Rattle.ipx_table.specs.Facts.{Fact, Offered, PortEnd, End}
use Rattle.ipx_table.specs.Reading.{Rules, one_source}
use Rattle.ipx_table.specs.Stands.{held}
use Rattle.ipx_table.specs.Taken.{known_of, offer_left, taken_down, taken_over}
use Rattle.ipx_table.specs.declared.held.Held.{Held}
use Rattle.ipx_table.proofs.History.{alive_after-port, alive_after-end}
use Rattle.ipx_table.proofs.Living.{kept}
use Rattle.ipx_table.proofs.Standing.{rules_total}
use Rattle.ipx_wire.specs.declared.network.Network.{Network}
use Rattle.ipx_wire.specs.declared.node.Node.{Node}
use Rattle.ipx_wire.specs.declared.rip.RipEntry.{RipEntry}
use Rattle.ipx_router.specs.Facts.{route_offer, routes_offered, offers}
use Rattle.ipx_router.specs.Numbers.{unreachable}
use Rattle.ipx_router.specs.Outgoing.{route_to}
use Rattle.ipx_router.specs.Port.{Port, takes_no_route}
use Rattle.ipx_router.specs.Routes.{route_rules, route_reading, network_order}
use Rattle.ipx_router.specs.declared.route_offer.RouteOffer.{RouteOffer}
use Rattle.ipx_router.proofs.bounds.PacketsOfEachEvent.{network_total}
use Rattle.ipx_router.proofs.changes.DiffersByOneFact.{found}
use Rattle.ipx_router.proofs.tables.FoundIsOfItsRecord.{found as found_to}
use Rattle.ipx_router.proofs.tables.HeldWasOffered.{all_in_order, all_offers}
use Rattle.ipx_internet.proofs.lists.FoundInAList.{nothing, it_is}
use Rattle.ipx_internet.proofs.records.KeptOrOffered.{OffersOf, among_alive, own, several}
use Rattle.ipx_laws.proofs.lists.SomeElement.{AnyIs}
use Rattle.ipx_laws.proofs.records.SameSource.{bytes_same}
use Rattle.ipx_laws.proofs.tables.RoomForEachNetwork.{equal_where_same}

-- the route of a network
abbrev pub route_at : Network → List RouteOffer → Option RouteOffer
route_at network routes = find (λ r. is_eq (network_order r.network network)) routes

pub record Shrinks (old new : List RouteOffer) : Type 0 where
  pub each : (network : Network) → (route_at network new ≡ route_at network old) ⊎ (route_at network new ≡ None)

-- an entry that says that nothing is reached, and an offer that does
abbrev pub IsDead : RipEntry → Type 0
IsDead e = unreachable ≤ e.hops

abbrev IsDown : RouteOffer → Type 0
IsDown r = route_reading.is_down r ≡ true

-- ---- lists in which at most one passes a test

module _ {X : Type 0} (p : X → Bool) where
  none_found : (q : X → Bool) (xs : List X) → length (filter p xs) ≤ 0 → find p (filter q xs) ≡ None
  none_found q [] few = refl
  none_found q (x ∷ xs) few = elim (cases_Bool (p x)) [
    | inl here ↦ let less : suc (length (filter p xs)) ≤ 0 = rw here at few in absurd (omega (arith, less))
    | inr other ↦
        let rest = none_found q xs (rw other at few) in
        elim (cases_Bool (q x)) [
          | inl stays ↦ rw (stays, other) rest
          | inr goes ↦ rw goes rest
        ]
  ]

  -- it is found among fewer, or isn't there
  found_or_none : (q : X → Bool) (xs : List X) → length (filter p xs) ≤ 1 → (find p (filter q xs) ≡ find p xs) ⊎ (find p (filter q xs) ≡ None)
  found_or_none q [] few = inl refl
  found_or_none q (x ∷ xs) few = elim (cases_Bool (p x)) [
    | inl here ↦ elim (cases_Bool (q x)) [
      | inl stays ↦ inl (rw (stays, here) refl)
      | inr goes ↦
          let less : suc (length (filter p xs)) ≤ 1 = rw here at few in
          inr (rw goes (none_found q xs (omega (arith, less))))
    ]
    | inr other ↦
        let rest = found_or_none q xs (rw other at few) in
        elim (cases_Bool (q x)) [
          | inl stays ↦ rw (stays, other) rest
          | inr goes ↦ rw (goes, other) rest
        ]
  ]

  -- one that passes is the one that is found
  some_pass : (xs : List X) (x : X) → p x ≡ true → AnyIs (λ y. y ≡ x) xs → 1 ≤ length (filter p xs)
  some_pass [] x passes any = absurd any
  some_pass (y ∷ ys) x passes any = elim (cases_Bool (p y)) [
    | inl here ↦ rw here (omega arith)
    | inr other ↦ elim any [
      | inl same ↦ absurd (both_ways (p y) other (ap p same ∙ passes))
      | inr behind ↦ rw other (some_pass ys x passes behind)
    ]
  ]

  one_found : (xs : List X) → length (filter p xs) ≤ 1 → (x : X) → p x ≡ true → AnyIs (λ y. y ≡ x) xs → find p xs ≡ Some x
  one_found [] few x passes any = absurd any
  one_found (y ∷ ys) few x passes any = elim (cases_Bool (p y)) [
    | inl here ↦ elim any [
      | inl same ↦ rw here (ap Some same)
      | inr behind ↦
          let less : suc (length (filter p ys)) ≤ 1 = rw here at few in
          let some = some_pass ys x passes behind in
          absurd (omega (arith, less, some))
    ]
    | inr other ↦ elim any [
      | inl same ↦ absurd (both_ways (p y) other (ap p same ∙ passes))
      | inr behind ↦ rw other (one_found ys (rw other at few) x passes behind)
    ]
  ]

all_members : {X : Type 0} (P : X → Type 0) (xs : List X) → ((x : X) → AnyIs (λ y. y ≡ x) xs → P x) → AllByRecursion P xs
all_members P [] each = tt
all_members P (x ∷ xs) each = (each x (inl refl), all_members P xs (λ y any. each y (inr any)))

-- where a route is found by its number
pub route_to_is : (network : Network) (records : List (Held RouteOffer)) → route_to (offers records) network.0 ≡ route_at network (offers records)
route_to_is network records = sym (found_to network records) ∙ sym (found (λ r. is_eq (network_order r.network network)) records)

-- ---- a table

module _ (ports : List Port) (most_routes : ℕ) where
  abbrev rules : Rules RouteOffer
  rules = route_rules ports most_routes

  abbrev shares : List ℕ
  shares = map (λ p. p.route_share) ports

  -- the routes after facts
  abbrev pub after : List (Fact RouteOffer) → List RouteOffer
  after facts = offers (held rules facts)

  abbrev records : List (Fact RouteOffer) → List (Held RouteOffer)
  records facts = alive rules (marked rules facts)

  abbrev known : Network → List (Held RouteOffer) → Option (Held RouteOffer)
  known network hs = find (λ h. is_eq (network_order h.offer.network network)) hs

  among : (network : Network) (facts : List (Fact RouteOffer)) → route_at network (after facts) ≡ option_map (λ h. h.offer) (known network (records facts))
  among network facts = among_alive route_reading network_order network_total most_routes shares network facts

  few_of : (network : Network) (facts : List (Fact RouteOffer)) → length (filter (λ h. is_eq (network_order h.offer.network network)) (records facts)) ≤ 1
  few_of network facts =
      (kept rules (rules_total route_reading network_order network_total most_routes shares) facts).distinct
      (record { network = network; hops = 0; ticks = 0; port = 0; node = record { 0 = [] } })

  -- each route that is held is the one of its network
  pub each_held : (P : RouteOffer → Type 0) (facts : List (Fact RouteOffer)) → ((r : RouteOffer) → route_at r.network (after facts) ≡ Some r → P r)
      → AllByRecursion P (after facts)
  each_held P facts each =
      all_offers P (held rules facts)
      (all_in_order P rules.by_key (records facts)
      (all_members (λ h. P h.offer) (records facts)
      (λ h there. each h.offer
      (among h.offer.network facts
      ∙ ap (option_map (λ x. x.offer))
      (one_found (λ x. is_eq (network_order x.offer.network h.offer.network)) (records facts) (few_of h.offer.network facts) h
      (equal_where_same h.offer.network.0 h.offer.network.0 refl) there)))))

  -- ---- where it shrinks

  pub dead_offers_shrink : (facts new : List (Fact RouteOffer)) → AllByRecursion (OffersOf IsDown) new → Shrinks (after facts) (after (facts ++ new))
  dead_offers_shrink facts new all = record {
    each = λ network. elim (several route_reading network_order network_total most_routes shares IsDown new facts all network) [
      | inl same ↦ inl same
      | inr told ↦ elim told.left [
        | inl none ↦ inr none
        | inr up ↦ absurd (both_ways (route_reading.is_down told.offer) up.1 told.such)
      ]
    ];
  }

  fewer_shrink : (facts later : List (Fact RouteOffer)) (q : Held RouteOffer → Bool) → records later ≡ filter q (records facts)
      → Shrinks (after facts) (after later)
  fewer_shrink facts later q e = grind (arith, is_eq, option_map, among, found_or_none, few_of)

  pub port_end_shrinks : (facts : List (Fact RouteOffer)) (port : ℕ) → Shrinks (after facts) (after (facts ++ PortEnd port ∷ []))
  port_end_shrinks facts port = grind (arith, fewer_shrink, alive_after-port)

  pub end_shrinks : (facts : List (Fact RouteOffer)) → Shrinks (after facts) (after (facts ++ End ∷ []))
  end_shrinks facts = grind (arith, among, option_map, alive_after-end)

  -- ---- a dead offer of the source

  module _ (facts : List (Fact RouteOffer)) (o r : RouteOffer) (down : IsDown o) (network : o.network ≡ r.network) (port : r.port ≡ o.port) (node : r.node ≡ o.node) where
    same_source : one_source (r.port, r.node) (o.port, o.node) ≡ true
    same_source = grind (arith, and_from, eq-eqb, bytes_same)

    one_ends : route_at r.network (after (facts ++ Offered o ∷ [])) ≡ Some r → ⊥
    one_ends e = by (known_of rules (records facts) o) refl
      where
        before : Option RouteOffer
        before = route_at o.network (after facts)

        answer : Option (Held RouteOffer) → Option RouteOffer
        answer k = offer_left (taken_down rules (λ a b. true) o k) before o

        now : answer (known_of rules (records facts) o) ≡ Some r
        now =
            let judged : offer_left (taken_over rules (λ a b. true) (records facts) o) before o ≡ answer (known_of rules (records facts) o) = rw down refl in
            sym judged ∙ sym (own route_reading network_order network_total most_routes shares facts o)
            ∙ ap (λ n. route_at n (after (facts ++ Offered o ∷ []))) network ∙ e

        by : (k : Option (Held RouteOffer)) → known_of rules (records facts) o ≡ k → ⊥
        by None none =
            nothing (sym (among o.network facts ∙ ap (option_map (λ h. h.offer)) none) ∙ sym (ap answer none) ∙ now)
        by (Some h) some = elim (cases_Bool (rules.same_source h.offer o)) [
          | inl same ↦
              let gone : answer (Some h) ≡ None = rw same refl in
              nothing (sym gone ∙ sym (ap answer some) ∙ now)
          | inr other ↦
              let stays : answer (Some h) ≡ before = rw other refl in
              let is_r : Some h.offer ≡ Some r =
              sym (among o.network facts ∙ ap (option_map (λ x. x.offer)) some) ∙ sym stays ∙ sym (ap answer some) ∙ now in
              let is_same : h.offer ≡ r = it_is (λ (x : RouteOffer). h.offer ≡ x) r h.offer is_r refl in
              both_ways (rules.same_source h.offer o) other
              (subst (λ (x : RouteOffer). one_source (x.port, x.node) (o.port, o.node) ≡ true) (sym is_same) same_source)
        ]

  -- of several dead offers from one source, each ends its route
  module _ (number : ℕ) (node : Node) where
    abbrev offered : RipEntry → Fact RouteOffer
    offered e = Offered (route_offer number node e)

    all_down : (es : List RipEntry) → AllByRecursion IsDead es → AllByRecursion (OffersOf IsDown) (routes_offered ports number node es)
    all_down [] all = tt
    all_down (e ∷ es) all = grind (arith, all_down es all.1)

    pub dead_entries_shrink : (es : List RipEntry) (facts : List (Fact RouteOffer)) → AllByRecursion IsDead es
        → Shrinks (after facts) (after (facts ++ routes_offered ports number node es))
    dead_entries_shrink es facts all = dead_offers_shrink facts (routes_offered ports number node es) (all_down es all)

    module _ (r : RouteOffer) (wanted : takes_no_route ports r.network ≡ false) (port : r.port ≡ number) (same_node : r.node ≡ node) where
      pub source_ends : (es : List RipEntry) (facts : List (Fact RouteOffer)) → AllByRecursion IsDead es → AnyIs (λ e. e.network ≡ r.network) es
          → route_at r.network (after (facts ++ routes_offered ports number node es)) ≡ Some r → ⊥
      source_ends [] facts all any held = absurd any
      source_ends (e ∷ es) facts all (inl named) held =
          let taken : takes_no_route ports e.network ≡ false = subst (λ (n : Network). takes_no_route ports n ≡ false) (sym named) wanted in
          let rest = routes_offered ports number node es in
          let next = facts ++ offered e ∷ [] in
          let behind : route_at r.network (after (next ++ rest)) ≡ Some r =
          subst (λ (fs : List (Fact RouteOffer)). route_at r.network (after fs) ≡ Some r) (sym (append_assoc facts (offered e ∷ []) rest)) (rw taken at held) in
          elim ((dead_entries_shrink es next all.1).each r.network) [
            | inl same ↦ one_ends facts (route_offer number node e) r (le-leb unreachable e.hops all.0) named port same_node (sym same ∙ behind)
            | inr none ↦ nothing (sym none ∙ behind)
          ]
      source_ends (e ∷ es) facts all (inr later) held = elim (cases_Bool (takes_no_route ports e.network)) [
        | inl none ↦ source_ends es facts all.1 later (rw none at held)
        | inr taken ↦
            let rest = routes_offered ports number node es in
            source_ends es (facts ++ offered e ∷ []) all.1 later
            (subst (λ (fs : List (Fact RouteOffer)). route_at r.network (after fs) ≡ Some r) (sym (append_assoc facts (offered e ∷ []) rest)) (rw taken at held))
      ]
