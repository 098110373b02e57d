-- Where every route is of a real way, or to a network of a list, there is room: no more routes are held than there are networks that the router
-- has no port on, and of the list; and which of two routes is worse.
use Rattle.std.proofs.Common.{◌≡◌, refl, sym, ap, ◌∙◌, subst, ℕ, zero, suc, ◌<◌, ◌≤◌, ◌==◌, nat_lt, ◌&&◌, Bool, true, false, not, List, [], ◌∷◌, ◌++◌, length, map, filter, find, flat_map, get_or, None, Some, inl, inr, arith, true≢false, Less, Equal, Greater, is_eq}
use Rattle.std.specs.List.{AllByRecursion, list_any}
use Rattle.std.specs.Ordering.{nat_cmp, is_gt}
use Rattle.std.specs.Cmp.{nat_cmp_is}
use Rattle.std.proofs.lemmas.Bool.{cases_Bool, cases_eq, cases_lt, or_left, or_right, or_cases, eq-eqb, eqb-true}
use Rattle.ipx_table.specs.Accepted.{has_share, may_replace}
use Rattle.ipx_table.specs.Reading.{rank_order}
use Rattle.ipx_table.specs.Stands.{IsDistinct}
use Rattle.ipx_table.specs.declared.held.Held.{Held}
use Rattle.ipx_wire.specs.Crossed.{is_among}
use Rattle.ipx_wire.specs.declared.network.Network.{Network}
use Rattle.ipx_router.specs.Port.{Port, port_at, is_up, broadcast}
use Rattle.ipx_router.specs.Routes.{route_rules, route_reading, network_order}
use Rattle.ipx_router.specs.declared.route_offer.RouteOffer.{RouteOffer}
use Rattle.ipx_router.proofs.bounds.PacketsOfEachEvent.{network_total}
use Rattle.ipx_internet.specs.Internet.{Internet, Place, IsPlace, ports_of, network_of}
use Rattle.ipx_internet.proofs.lists.EachElement.{all_at, all_mapped, all_then}
use Rattle.ipx_internet.proofs.places.OneReceiverOfANode.{same_number}
use Rattle.ipx_internet.proofs.trees.RunIsALog.{router_there}
use Rattle.ipx_laws.specs.Apart.{IsRealApart, HasRoomBeside}
use Rattle.ipx_laws.specs.Least.{Way, is_on, each_once, networks_of, others_of}
use Rattle.ipx_laws.specs.Real.{IsReal, next, farther}
use Rattle.ipx_laws.proofs.lists.SomeElement.{AnyIs, any-map, any-flat_map, passes_any}
use Rattle.ipx_laws.proofs.records.KeysHaveRoom.{IsListed, AreSingle, admits, replaces}
use Rattle.ipx_laws.proofs.tables.LeastWays.{NoWorse}
use Rattle.ipx_laws.proofs.tables.NoRouteIsBetter.{off_where_wanted}

-- ---- numbers and ranks in order

less_is : (x y : ℕ) → x < y → nat_cmp x y ≡ Less
less_is x y less = sym (nat_cmp_is x y Less less)

equal_is : (x y : ℕ) → x ≡ y → nat_cmp x y ≡ Equal
equal_is x y same = sym (nat_cmp_is x y Equal same)

greater_is : (x y : ℕ) → y < x → nat_cmp x y ≡ Greater
greater_is x y greater = sym (nat_cmp_is x y Greater greater)

-- two numbers are the same where neither comes first
pub same_where_equal : (x y : ℕ) → is_eq (nat_cmp x y) ≡ true → x ≡ y
same_where_equal x y e = grind arith

pub equal_where_same : (x y : ℕ) → x ≡ y → is_eq (nat_cmp x y) ≡ true
equal_where_same x y same = ap is_eq (equal_is x y same)

-- a way that isn't worse
pub not_worse : (a b : Way) → is_gt (rank_order (a.ticks, a.hops) (b.ticks, b.hops)) ≡ false → NoWorse a b
not_worse a b e = elim (cases_lt a.ticks b.ticks) [
  | inl less ↦ record { ticks = omega (arith, less); hops = λ same. absurd (omega (arith, less, same)) }
  | inr most ↦ elim (cases_eq a.ticks b.ticks) [
    | inr off ↦
        let greater = greater_is a.ticks b.ticks (omega (arith, most, off)) in
        absurd (true≢false (rw greater at e))
    | inl same ↦ elim (cases_lt b.hops a.hops) [
      | inr few ↦ record { ticks = omega (arith, same); hops = λ also. few }
      | inl more ↦
          let equal = equal_is a.ticks b.ticks same in
          let greater = greater_is a.hops b.hops more in
          absurd (true≢false (rw (equal, greater) at e))
    ]
  ]
]

-- and one that is, is worse
pub worse : (a b : Way) → is_gt (rank_order (a.ticks, a.hops) (b.ticks, b.hops)) ≡ true → NoWorse a b → ⊥
worse a b e less = elim (cases_lt a.ticks b.ticks) [
  | inl fewer ↦
      let first = less_is a.ticks b.ticks fewer in
      true≢false (sym (rw first at e))
  | inr most ↦
      let bound = less.ticks in
      let same : a.ticks ≡ b.ticks = omega (arith, most, bound) in
      let equal = equal_is a.ticks b.ticks same in
      let hops = less.hops same in
      elim (cases_eq a.hops b.hops) [
        | inl also ↦ let second = equal_is a.hops b.hops also in true≢false (sym (rw (equal, second) at e))
        | inr off ↦ let second = less_is a.hops b.hops (omega (arith, hops, off)) in true≢false (sym (rw (equal, second) at e))
      ]
]

-- ---- networks

still_among : (network : Network) (networks : List Network) → is_among network networks ≡ true → is_among network (each_once networks) ≡ true
still_among network [] among = among
still_among network (n ∷ networks) among = elim (cases_Bool (is_among n networks)) [
  | inl again ↦ rw again (elim (or_cases (n.0 == network.0) (is_among network networks) among) [
    | inr behind ↦ still_among network networks behind
    | inl here ↦
        let same : n ≡ network = same_number n network (eqb-true n.0 network.0 here) in
        still_among network networks (subst (λ (m : Network). is_among m networks ≡ true) same again)
  ])
  | inr once ↦ rw once (elim (or_cases (n.0 == network.0) (is_among network networks) among) [
    | inr behind ↦ or_right (n.0 == network.0) (is_among network (each_once networks)) (still_among network networks behind)
    | inl here ↦ or_left (n.0 == network.0) (is_among network (each_once networks)) here
  ])
]

in_list : {X : Type 0} (xs : List X) (k : ℕ) (d : X) (P : X → Type 0) → k < length xs → P (get_or xs k d) → AnyIs P xs
in_list [] k d P less it = absurd (omega (arith, less))
in_list (x ∷ xs) zero d P less it = inl it
in_list (x ∷ xs) (suc k) d P less it = inr (in_list xs k d P (omega (arith, less)) it)

-- the network of each port is named
pub named : (net : Internet) (place : Place) → IsPlace net place → is_among (network_of net place) (networks_of net) ≡ true
named net place there =
    let network = network_of net place in
    still_among network (flat_map (λ ports. map (λ p. p.network) ports) net)
    (passes_any (λ n. n.0 == network.0) (flat_map (λ ports. map (λ p. p.network) ports) net)
    (any-flat_map (λ ports. AnyIs (λ p. (p.network.0 == network.0) ≡ true) ports) (λ n. (n.0 == network.0) ≡ true) (λ ports. map (λ p. p.network) ports)
    (λ ports any. any-map (λ p. (p.network.0 == network.0) ≡ true) (λ n. (n.0 == network.0) ≡ true) (λ p. p.network) (λ p is. is) ports any) net
    (in_list net place.router [] (λ ports. AnyIs (λ p. (p.network.0 == network.0) ≡ true) ports) (router_there net place.router place.port there)
    (in_list (ports_of net place.router) place.port (port_at [] 0) (λ p. (p.network.0 == network.0) ≡ true) there (eq-eqb network.0 network.0 refl)))))

-- ---- lists that pass a test

-- what passes stays among those that do
still_passes : {X : Type 0} (test keep : X → Bool) (x : X) → ((y : X) → test y ≡ true → y ≡ x) → keep x ≡ true → (xs : List X) → list_any test xs ≡ true
    → list_any test (filter keep xs) ≡ true
still_passes test keep x same kept [] any = any
still_passes test keep x same kept (y ∷ xs) any = elim (cases_Bool (test y)) [
  | inl here ↦
      let stays : keep y ≡ true = ap keep (same y here) ∙ kept in
      rw stays (or_left (test y) (list_any test (filter keep xs)) here)
  | inr off ↦
      let rest = still_passes test keep x same kept xs (rw off at any) in
      elim (cases_Bool (keep y)) [
        | inl stays ↦ rw stays (or_right (test y) (list_any test (filter keep xs)) rest)
        | inr goes ↦ rw goes rest
      ]
]

-- ---- routes of real ways are to such networks

module _ (net : Internet) (up : ℕ → List ℕ) (there_where_up : (router port : ℕ) → is_up (up router) port ≡ true → port < length (ports_of net router)) where
  pub real_named : {router : ℕ} {r : RouteOffer} → IsReal net up router r → is_among r.network (networks_of net) ≡ true
  real_named (next from beside on apart taken) =
      subst (λ (n : Network). is_among n (networks_of net) ≡ true) (sym (ap (λ (x : RouteOffer). x.network) taken.offer))
      (named net (record { router = from.router; port = beside }) (there_where_up from.router beside on))
  real_named (farther from s apart taken near real) =
      subst (λ (n : Network). is_among n (networks_of net) ≡ true) (sym (ap (λ (x : RouteOffer). x.network) taken.offer)) (real_named real)

  pub real_wanted : {router : ℕ} {r : RouteOffer} → IsReal net up router r → is_on (ports_of net router) r.network ≡ false
  real_wanted {router} {r} (next from beside on apart taken) = off_where_wanted (ports_of net router) r.network taken.wanted
  real_wanted {router} {r} (farther from s apart taken near real) = off_where_wanted (ports_of net router) r.network taken.wanted

  -- those a router may have a route to
  is_other : (router : ℕ) {r : RouteOffer} → IsReal net up router r → list_any (λ n. n.0 == r.network.0) (others_of net (ports_of net router)) ≡ true
  is_other router {r} real =
      still_passes (λ n. n.0 == r.network.0) (λ n. not (is_on (ports_of net router) n)) r.network
      (λ n e. same_number n r.network (eqb-true n.0 r.network.0 e)) (let wanted = real_wanted real in rw wanted refl) (networks_of net) (real_named real)

  -- so they are a list
  listed : (network : Network) (networks : List Network) → list_any (λ n. n.0 == network.0) networks ≡ true → IsListed networks network
  listed network [] any = absurd (true≢false (sym any))
  listed network (n ∷ networks) any = elim (or_cases (n.0 == network.0) (list_any (λ m. m.0 == network.0) networks) any) [
    | inl here ↦ (0, ap (λ (m : Network). Some m) (same_number n network (eqb-true n.0 network.0 here)))
    | inr behind ↦ let rest = listed network networks behind in (suc rest.0, rest.1)
  ]

  -- ---- room and shares

  -- what is in one of two lists is in both together
  in_first : (network : Network) (xs ys : List Network) → list_any (λ n. n.0 == network.0) xs ≡ true → list_any (λ n. n.0 == network.0) (xs ++ ys) ≡ true
  in_first network [] ys any = absurd (true≢false (sym any))
  in_first network (x ∷ xs) ys any = elim (or_cases (x.0 == network.0) (list_any (λ n. n.0 == network.0) xs) any) [
    | inl here ↦ or_left (x.0 == network.0) (list_any (λ n. n.0 == network.0) (xs ++ ys)) here
    | inr behind ↦ or_right (x.0 == network.0) (list_any (λ n. n.0 == network.0) (xs ++ ys)) (in_first network xs ys behind)
  ]

  in_second : (network : Network) (xs ys : List Network) → list_any (λ n. n.0 == network.0) ys ≡ true → list_any (λ n. n.0 == network.0) (xs ++ ys) ≡ true
  in_second network [] ys any = any
  in_second network (x ∷ xs) ys any = or_right (x.0 == network.0) (list_any (λ n. n.0 == network.0) (xs ++ ys)) (in_second network xs ys any)

  module _ (router : ℕ) (most_routes : ℕ) (foreign : List Network) (room : HasRoomBeside net most_routes foreign) (inside : router < length net)
      (held : List (Held RouteOffer))
      (distinct : IsDistinct (route_rules (ports_of net router) most_routes).by_key held) (all : AllByRecursion (λ h. IsRealApart net up foreign router h.offer) held)
      (o : RouteOffer) where
    abbrev ports : List Port
    ports = ports_of net router

    abbrev others : List Network
    others = others_of net ports ++ foreign

    one : (a b : Network) → is_eq (network_order a b) ≡ true → a ≡ b
    one a b e = same_number a b (same_where_equal a.0 b.0 e)

    table : length others ≤ most_routes
    table = all_at (λ ps. length (others_of net ps ++ foreign) ≤ most_routes) net router [] room.table inside

    each : AllByRecursion (λ s. length others ≤ s) (map (λ p. p.route_share) ports)
    each =
        all_mapped (λ s. length others ≤ s) (λ p. p.route_share) ports
        (all_at (λ ps. AllByRecursion (λ p. length (others_of net ps ++ foreign) ≤ p.route_share) ps) net router [] room.shares inside)

    single : AreSingle route_reading network_order network_total one held
    single n = distinct (record { network = n; hops = 0; ticks = 0; port = 0; node = broadcast })

    is_listed : (r : RouteOffer) → IsRealApart net up foreign router r → IsListed others r.network
    is_listed r fine = listed r.network others (elim (cases_Bool (is_among r.network foreign)) [
      | inl among ↦ in_second r.network (others_of net ports) foreign among
      | inr off ↦ in_first r.network (others_of net ports) foreign (is_other router (fine off))
    ])

    are_listed : AllByRecursion (λ h. IsListed others h.offer.network) held
    are_listed =
        all_then (λ h. IsRealApart net up foreign router h.offer) (λ h. IsListed others h.offer.network) (λ h fine. is_listed h.offer fine) held all

    pub has_room : IsRealApart net up foreign router o → find (λ h. is_eq (network_order h.offer.network o.network)) held ≡ None
        → (nat_lt (length held) most_routes && has_share (route_rules ports most_routes) o held) ≡ true
    has_room fine =
        admits route_reading network_order network_total one most_routes (map (λ p. p.route_share) ports) others table each held single are_listed o (is_listed o fine)

    pub may : (h : Held RouteOffer) → find (λ h. is_eq (network_order h.offer.network o.network)) held ≡ Some h
        → may_replace (route_rules ports most_routes) o held h ≡ true
    may = replaces route_reading network_order network_total one most_routes (map (λ p. p.route_share) ports) others table each held single are_listed o
