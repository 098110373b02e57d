-- Least ways: each is that of a neighbour gone on, none is better, and more hops make none worse.
use Rattle.std.proofs.lemmas.Grind.{common_steps}
use Rattle.std.proofs.Common.{◌≡◌, ◌≢◌, refl, sym, ap, ap₂, ◌∙◌, subst, ◌⊎◌, ℕ, zero, suc, ◌+◌, ◌<◌, ◌≤◌, ◌==◌, ◌&&◌, Bool, true, false, not, List, [], ◌∷◌, ◌++◌, length, map, find, get_or, Option, None, Some, option_map, inl, inr, arith, true≢false}
use Rattle.std.specs.List.{AllByRecursion}
use Rattle.std.proofs.lemmas.Bool.{cases_Bool, and_parts, or_cases, eqb-true, eqb-false, eq-eqb, ne_eqb, cases_eq, cases_lt, not-true, both_ways}
use Rattle.std.proofs.lemmas.List.{get_or_append_left, get_or-append-add, get_or_past, length-map, map-append}
use Rattle.ipx_wire.specs.declared.network.Network.{Network}
use Rattle.ipx_router.specs.History.{History}
use Rattle.ipx_router.specs.Port.{Port, port_at, numbers, is_up}
use Rattle.ipx_router.proofs.port_values.PortOfEachNumber.{members, one_up, ports_up-within}
use Rattle.ipx_internet.specs.Internet.{Internet, Place, IsPlace, ports_of, port_of, network_of, places}
use Rattle.ipx_internet.specs.Queue.{history_of}
use Rattle.ipx_internet.proofs.lists.EachElement.{all_passed}
use Rattle.ipx_internet.proofs.lists.FoundInAList.{nothing, it_is}
use Rattle.ipx_internet.proofs.lists.HowManyPass.{length-numbers}
use Rattle.ipx_internet.proofs.places.EachPortOnce.{places_within}
use Rattle.ipx_internet.proofs.places.OneReceiverOfANode.{same_number}
use Rattle.ipx_internet.proofs.trees.RunIsALog.{router_there}
use Rattle.ipx_laws.specs.Least.{Way, is_better, better_of, best, is_on, is_up_on, own_way, neighbours, by_port, way_by, nearest, ways_within}
use Rattle.ipx_laws.specs.Ups.{ups}
use Rattle.ipx_laws.proofs.lists.SomeElement.{AnyIs, any_then, any_passes, passes_any, found_with, found_some, any_and_all, the_one, any-map, any_mapped, any_in_front, any_behind, any-filter, any-flat_map}

-- ---- the best of ways

-- a way has fewer ticks than another, or as many and no more hops
pub record NoWorse (a b : Way) : Type 0 where
  pub ticks : a.ticks ≤ b.ticks
  pub hops : a.ticks ≡ b.ticks → a.hops ≤ b.hops

pub itself : (a : Way) → NoWorse a a
itself a = record { ticks = omega arith; hops = λ e. omega arith }

pub no_worse_then : (a b c : Way) → NoWorse a b → NoWorse b c → NoWorse a c
no_worse_then a b c one two = grind arith

pub same_way : (a b : Way) → a.ticks ≡ b.ticks → a.hops ≡ b.hops → a ≡ b
same_way a b ticks hops =
    let make : ℕ → ℕ → Way = λ h t. record { hops = h; ticks = t } in
    ap₂ make hops ticks

pub both_no_worse : (a b : Way) → NoWorse a b → NoWorse b a → a ≡ b
both_no_worse a b one two = grind arith

is_then : (a b : Way) → is_better b a ≡ true → NoWorse b a
is_then a b e = grind arith

-- the best of one way and others is one of them, and no worse than each
better_is : (a : Way) (o : Option Way) → (better_of a o ≡ a) ⊎ (o ≡ Some (better_of a o))
better_is a None = inl refl
better_is a (Some b) = elim (cases_Bool (is_better b a)) [
  | inl e ↦ rw e (inr refl)
  | inr e ↦ rw e (inl refl)
]

better_first : (a : Way) (o : Option Way) → NoWorse (better_of a o) a
better_first a None = itself a
better_first a (Some b) = elim (cases_Bool (is_better b a)) [
  | inl e ↦ rw e (is_then a b e)
  | inr e ↦ rw e (itself a)
]

better_rest : (a : Way) (o : Option Way) (b : Way) → o ≡ Some b → NoWorse (better_of a o) b
better_rest a o b is = grind arith

pub best_is : (ways : List (Option Way)) (v : Way) → best ways ≡ Some v → AnyIs (λ o. o ≡ Some v) ways
best_is [] v e = nothing e
best_is (None ∷ ways) v e = inr (best_is ways v e)
best_is (Some a ∷ ways) v e = elim (better_is a (best ways)) [
  | inl first ↦ inl (ap Some (sym first) ∙ e)
  | inr later ↦ inr (best_is ways v (later ∙ e))
]

pub best_least : (ways : List (Option Way)) (w : Way) → AnyIs (λ o. o ≡ Some w) ways → (v : Way) × (best ways ≡ Some v) × NoWorse v w
best_least [] w any = absurd any
best_least (None ∷ ways) w (inl here) = nothing here
best_least (None ∷ ways) w (inr behind) = best_least ways w behind
best_least (Some a ∷ ways) w (inl here) =
    (better_of a (best ways), refl, it_is (λ (b : Way). NoWorse (better_of a (best ways)) b) w a here (better_first a (best ways)))
best_least (Some a ∷ ways) w (inr behind) =
    let (v, is, least) = best_least ways w behind in
    (better_of a (best ways), refl, no_worse_then (better_of a (best ways)) v w (better_rest a (best ways) v is) least)

pub goes_on : (cost : ℕ) (a b : Way) → NoWorse a b → NoWorse (by_port cost a) (by_port cost b)
goes_on cost a b less = record {
  ticks = let x = less.ticks in omega (arith, x);
  hops = λ e. let y = less.hops (omega (arith, e)) in omega (arith, y);
}

-- ---- lists by numbers

pub at_numbers : {X : Type 0} (f : ℕ → X) (n k : ℕ) (d : X) → k < n → get_or (map f (numbers n)) k d ≡ f k
at_numbers f zero k d less = absurd (omega (arith, less))
at_numbers f (suc n) k d less = ap (λ xs. get_or xs k d) (map-append f (numbers n) (n ∷ [])) ∙ by (at_numbers f n k d) (cases_eq k n)
  where
    long : length (map f (numbers n)) ≡ n
    long = length-map (numbers n) f ∙ length-numbers n

    by : (k < n → get_or (map f (numbers n)) k d ≡ f k) → (k ≡ n) ⊎ (k ≢ n) → get_or (map f (numbers n) ++ f n ∷ []) k d ≡ f k
    by rest (inl same) =
        ap (λ j. get_or (map f (numbers n) ++ f n ∷ []) j d) (same ∙ sym long ∙ omega arith)
        ∙ get_or-append-add (map f (numbers n)) (f n ∷ []) 0 d ∙ ap f (sym same)
    by rest (inr off) =
        let before : k < n = omega (arith, less, off) in
        let there : k < length (map f (numbers n)) = omega (arith, before, long) in
        get_or_append_left (map f (numbers n)) (f n ∷ []) d k there ∙ rest before

pub past_numbers : {X : Type 0} (f : ℕ → X) (n k : ℕ) (d : X) → n ≤ k → get_or (map f (numbers n)) k d ≡ d
past_numbers f n k d past =
    let long : length (map f (numbers n)) ≡ n = length-map (numbers n) f ∙ length-numbers n in
    get_or_past (map f (numbers n)) k d (omega (arith, long, past))

pub number_in : (n k : ℕ) → k < n → AnyIs (λ j. j ≡ k) (numbers n)
number_in zero k less = absurd (omega (arith, less))
number_in (suc n) k less = elim (cases_eq k n) [
  | inl same ↦ any_behind (λ j. j ≡ k) (numbers n) (n ∷ []) (inl (sym same))
  | inr off ↦ any_in_front (λ j. j ≡ k) (numbers n) (n ∷ []) (number_in n k (omega (arith, less, off)))
]

-- ---- ports on a network

pub on_port : (ports : List Port) (network : Network) → is_on ports network ≡ true → (j : ℕ) × (j < length ports) × ((port_at ports j).network ≡ network)
on_port [] network e = absurd (true≢false (sym e))
on_port (p ∷ ports) network e = elim (or_cases (p.network.0 == network.0) (is_on ports network) e) [
  | inl here ↦ (0, omega arith, same_number p.network network (eqb-true p.network.0 network.0 here))
  | inr behind ↦
      let (j, less, same) = on_port ports network behind in
      (suc j, omega (arith, less), same)
]

pub port_on : (ports : List Port) (network : Network) (j : ℕ) → j < length ports → (port_at ports j).network ≡ network → is_on ports network ≡ true
port_on ports network j less same = grind (arith, common_steps, eq-eqb)

-- ---- ports that are up

-- where a port of a list of numbers is on the network, the number
pub up_port : (ports : List Port) (up : List ℕ) (network : Network) → is_up_on ports up network ≡ true
    → (j : ℕ) × (is_up up j ≡ true) × ((port_at ports j).network ≡ network)
up_port ports up network e =
    let any = any_and_all (λ j. ((port_at ports j).network.0 == network.0) ≡ true) (λ j. is_up up j ≡ true) up
    (any_passes (λ j. (port_at ports j).network.0 == network.0) up e) (members up) in
    let found = the_one _ up any in
    (found.0, found.1.1, same_number (port_at ports found.0).network network (eqb-true (port_at ports found.0).network.0 network.0 found.1.0))

pub port_up : (ports : List Port) (up : List ℕ) (network : Network) (j : ℕ) → is_up up j ≡ true → (port_at ports j).network ≡ network
    → is_up_on ports up network ≡ true
port_up ports up network j on same =
    passes_any (λ k. (port_at ports k).network.0 == network.0) up
    (any_then (λ k. (k == j) ≡ true) (λ k. ((port_at ports k).network.0 == network.0) ≡ true)
    (λ k e. ap (λ i. (port_at ports i).network.0 == network.0) (eqb-true k j e) ∙ eq-eqb (port_at ports j).network.0 network.0 (ap (λ (n : Network). n.0) same))
    up (any_passes (λ k. k == j) up on))

-- what a router's own way is: of a port on the network that is up
pub own_is : (ports : List Port) (up : List ℕ) (network : Network) (w : Way) → own_way ports up network ≡ Some w
    → (j : ℕ) × (is_up up j ≡ true) × ((port_at ports j).network ≡ network) × (w ≡ record { hops = 0; ticks = (port_at ports j).cost })
own_is ports up network w e = by (find (λ j. (port_at ports j).network.0 == network.0) up) refl e
  where
    by : (o : Option ℕ) → find (λ j. (port_at ports j).network.0 == network.0) up ≡ o
        → option_map (λ j. record { hops = 0; ticks = (port_at ports j).cost }) o ≡ Some w
        → (j : ℕ) × (is_up up j ≡ true) × ((port_at ports j).network ≡ network) × (w ≡ record { hops = 0; ticks = (port_at ports j).cost })
    by None there e = nothing e
    by (Some j) there e =
        let found = found_with (λ k. is_up up k ≡ true) (λ k. (port_at ports k).network.0 == network.0) up j (members up) there in (
          j,
          found.0,
          same_number (port_at ports j).network network (eqb-true (port_at ports j).network.0 network.0 found.1),
          it_is (λ (x : Way). x ≡ record { hops = 0; ticks = (port_at ports j).cost }) w (record { hops = 0; ticks = (port_at ports j).cost }) e refl,
        )

-- there is one where such a port is
pub own_there : (ports : List Port) (up : List ℕ) (network : Network) → is_up_on ports up network ≡ true
    → (w : Way) × (own_way ports up network ≡ Some w)
own_there ports up network e = by (find (λ j. (port_at ports j).network.0 == network.0) up) refl
  where
    by : (o : Option ℕ) → find (λ j. (port_at ports j).network.0 == network.0) up ≡ o → (w : Way) × (own_way ports up network ≡ Some w)
    by (Some j) there = (record { hops = 0; ticks = (port_at ports j).cost }, ap (option_map (λ k. record { hops = 0; ticks = (port_at ports k).cost })) there)
    by None there = absurd (found_some (λ j. (port_at ports j).network.0 == network.0) up (any_passes (λ j. (port_at ports j).network.0 == network.0) up e) there)

-- and none where the router isn't on the network
pub own_none : (ports : List Port) (up : List ℕ) (network : Network) → AllByRecursion (λ j. j < length ports) up → is_on ports network ≡ false
    → own_way ports up network ≡ None
own_none ports up network within off = by (own_way ports up network) refl
  where
    by : (o : Option Way) → own_way ports up network ≡ o → own_way ports up network ≡ None
    by None e = e
    by (Some w) e =
        let (j, on, same, cost) = own_is ports up network w e in
        absurd (both_ways (is_on ports network) off (port_on ports network j (one_up (λ k. k < length ports) up j within on) same))

-- ---- ways in an internet

module _ (net : Internet) where
  at : ℕ → ℕ → Place
  at router port = record { router = router; port = port }

  pub all_places : (from : Place) → IsPlace net from → AnyIs (λ p. p ≡ from) (places net)
  unfolding at
  all_places from there =
      any-flat_map (λ router. router ≡ from.router) (λ p. p ≡ from) (λ router. map (λ port. record { router = router; port = port }) (numbers (length
      (ports_of net router))))
      (λ router same. any-map (λ port. port ≡ from.port) (λ p. p ≡ from) (λ port. record { router = router; port = port })
      (λ port equal. ap₂ at same equal) (numbers (length (ports_of net router)))
      (number_in (length (ports_of net router)) from.port (subst (λ (r : ℕ). from.port < length (ports_of net r)) (sym same) there)))
      (numbers (length net)) (number_in (length net) from.router (router_there net from.router from.port there))

module _ (net : Internet) (up : ℕ → List ℕ) (in_ports : (router : ℕ) → AllByRecursion (λ j. j < length (ports_of net router)) (up router)) where
  -- a port of another router on the network of a port, both up
  pub record IsNeighbour (router port : ℕ) (from : Place) : Type 0 where
    pub other : from.router ≢ router
    pub place : IsPlace net from
    pub here : port < length (ports_of net router)
    pub network : network_of net (record { router = router; port = port }) ≡ network_of net from
    pub on_here : is_up (up router) port ≡ true
    pub on_there : is_up (up from.router) from.port ≡ true

  abbrev IsBeside : ℕ → Place → Bool
  IsBeside router from = not (from.router == router) && is_up (up from.router) from.port && is_up_on (ports_of net router) (up router) (network_of net from)

  pub in_neighbours : (router port : ℕ) (from : Place) → IsNeighbour router port from → AnyIs (λ p. p ≡ from) (neighbours net up router)
  in_neighbours router port from is =
      any-filter (λ p. p ≡ from) (IsBeside router) (λ p same. subst (λ (q : Place). IsBeside router q ≡ true) (sym same) passes) (places net)
      (all_places net from is.place)
    where
      passes : (not (from.router == router) && is_up (up from.router) from.port && is_up_on (ports_of net router) (up router) (network_of net from)) ≡ true
      passes =
          let off : (from.router == router) ≡ false = ne_eqb from.router router is.other in
          let there = is.on_there in
          rw (off, there) (port_up (ports_of net router) (up router) (network_of net from) port is.on_here is.network)

  pub a_neighbour : (router : ℕ) (from : Place) → IsPlace net from → IsBeside router from ≡ true → (port : ℕ) × IsNeighbour router port from
  a_neighbour router from there e =
      let parts = and_parts (not (from.router == router) && is_up (up from.router) from.port) (is_up_on (ports_of net router) (up router) (network_of net from)) e in
      let first_parts = and_parts (not (from.router == router)) (is_up (up from.router) from.port) parts.0 in
      let (port, on, same) = up_port (ports_of net router) (up router) (network_of net from) parts.1 in (
        port,
        record {
          other = eqb-false from.router router (not-true (from.router == router) first_parts.0);
          place = there;
          here = one_up (λ k. k < length (ports_of net router)) (up router) port (in_ports router) on;
          network = same;
          on_here = on;
          on_there = first_parts.1;
        },
      )

  module _ (network : Network) where
    -- the best way of at most so many hops
    abbrev pub within : ℕ → ℕ → Option Way
    within hops router = get_or (ways_within net up hops network) router None

    abbrev cost_of : Place → ℕ
    cost_of from = (port_of net from).cost

    abbrev pub own_of : ℕ → Option Way
    own_of router = own_way (ports_of net router) (up router) network

    pub none_of_own : (router : ℕ) → is_on (ports_of net router) network ≡ false → own_of router ≡ None
    none_of_own router off = own_none (ports_of net router) (up router) network (in_ports router) off

    pub first : (router : ℕ) → router < length net → within 0 router ≡ own_of router
    first router there = at_numbers (λ router. own_of router) (length net) router None there

    pub later : (hops router : ℕ) → router < length net → within (suc hops) router ≡ nearest net up network (ways_within net up hops network) router
    later hops router there = at_numbers (nearest net up network (ways_within net up hops network)) (length net) router None there

    pub is_there : (hops router : ℕ) (v : Way) → within hops router ≡ Some v → router < length net
    is_there hops router v e = elim (cases_lt router (length net)) [
      | inl there ↦ there
      | inr past ↦ nothing (sym (none hops past) ∙ e)
    ]
      where
        none : (hops : ℕ) → length net ≤ router → within hops router ≡ None
        none zero past = past_numbers (λ router. own_of router) (length net) router None past
        none (suc hops) past = past_numbers (nearest net up network (ways_within net up hops network)) (length net) router None past

    -- a router on the network has its own way, if any, whatever the hops
    pub own : (hops router : ℕ) → router < length net → is_on (ports_of net router) network ≡ true → within hops router ≡ own_of router
    own zero router there on = first router there
    own (suc hops) router there on = later hops router there ∙ rw on refl

    -- another one has the best by a neighbour
    by_others : (hops router : ℕ) → router < length net → is_on (ports_of net router) network ≡ false
        → within (suc hops) router ≡ best (map (way_by net (ways_within net up hops network)) (neighbours net up router))
    by_others hops router there off = later hops router there ∙ rw off refl

    -- a neighbour and its way
    pub record Came (hops router : ℕ) (v : Way) : Type 0 where
      pub port : ℕ
      pub from : Place
      pub neighbour : IsNeighbour router port from
      pub way : Way
      pub there : within hops from.router ≡ Some way
      pub by : v ≡ by_port (cost_of from) way

    -- another router has one by a neighbour
    pub came : (hops router : ℕ) (v : Way) → is_on (ports_of net router) network ≡ false → within (suc hops) router ≡ Some v → Came hops router v
    came hops router v off e = found (the_one _ (neighbours net up router) both)
      where
        all : List (Option Way)
        all = map (way_by net (ways_within net up hops network)) (neighbours net up router)

        is_best : best all ≡ Some v
        is_best =
            let there = is_there (suc hops) router v e in
            sym (by_others hops router there off) ∙ e

        any : AnyIs (λ from. way_by net (ways_within net up hops network) from ≡ Some v) (neighbours net up router)
        any = any_mapped (λ o. o ≡ Some v) (way_by net (ways_within net up hops network)) (neighbours net up router) (best_is all v is_best)

        both : AnyIs (λ from. (way_by net (ways_within net up hops network) from ≡ Some v)
            × (IsPlace net from × (IsBeside router from ≡ true))) (neighbours net up router)
        both =
            any_and_all (λ from. way_by net (ways_within net up hops network) from ≡ Some v) _ (neighbours net up router) any
            (all_passed (IsPlace net) (IsBeside router) (places net) (places_within net))

        found : (from : Place) × ((way_by net (ways_within net up hops network) from ≡ Some v)
            × (IsPlace net from × (IsBeside router from ≡ true))) → Came hops router v
        found (from, (is, (there, passes))) =
            let (port, neighbour) = a_neighbour router from there passes in
            by_way port from neighbour (within hops from.router) refl is
          where
            by_way : (port : ℕ) (from : Place) → IsNeighbour router port from → (o : Option Way) → within hops from.router ≡ o
                → option_map (by_port (cost_of from)) o ≡ Some v → Came hops router v
            by_way port from neighbour None is e = nothing e
            by_way port from neighbour (Some u) is e =
                record {
                  port = port;
                  from = from;
                  neighbour = neighbour;
                  way = u;
                  there = is;
                  by = it_is (λ (w : Way). w ≡ by_port (cost_of from) u) v (by_port
                      (cost_of from) u) e refl;
                }

    -- and none by a neighbour is better
    pub none_better : (hops router port : ℕ) (from : Place) (u : Way) → IsNeighbour router port from → is_on (ports_of net router) network ≡ false
        → within hops from.router ≡ Some u → (v : Way) × (within (suc hops) router ≡ Some v) × NoWorse v (by_port (cost_of from) u)
    none_better hops router port from u is off e =
        let all = map (way_by net (ways_within net up hops network)) (neighbours net up router) in
        let there = router_there net router port is.here in
        let one : way_by net (ways_within net up hops network) from ≡ Some (by_port (cost_of from) u) = ap (option_map (by_port (cost_of from))) e in
        let (v, is_best, least) = best_least all (by_port (cost_of from) u)
        (any-map (λ p. p ≡ from) (λ o. o ≡ Some (by_port (cost_of from) u)) (way_by net (ways_within net up hops network))
        (λ p same. ap (way_by net (ways_within net up hops network)) same ∙ one) (neighbours net up router) (in_neighbours router port from is)) in
        (v, by_others hops router there off ∙ is_best, least)

    -- ---- more hops

    -- where ways of two numbers of hops are one
    pub same_some : (o : Option Way) (a b : Way) → o ≡ Some a → o ≡ Some b → a ≡ b
    same_some o a b one two = it_is (λ (w : Way). w ≡ b) a b (sym two ∙ one) refl

    abbrev pub OnOrOff : ℕ → Type 0
    OnOrOff router = (is_on (ports_of net router) network ≡ true) ⊎ (is_on (ports_of net router) network ≡ false)

    pub on_or_off : (router : ℕ) → OnOrOff router
    on_or_off router = cases_Bool (is_on (ports_of net router) network)

    more_by : (hops router : ℕ) (v : Way) → within hops router ≡ Some v → OnOrOff router → (w : Way) × (within (suc hops) router ≡ Some w) × NoWorse w v
    more_by hops router v e (inl on) =
        let there = is_there hops router v e in
        (v, own (suc hops) router there on ∙ sym (own hops router there on) ∙ e, itself v)
    more_by zero router v e (inr off) =
        let there = is_there 0 router v e in
        nothing (sym (first router there ∙ none_of_own router off) ∙ e)
    more_by (suc hops) router v e (inr off) =
        let c = came hops router v off e in
        let (u, is, less) = more_by hops c.from.router c.way c.there (on_or_off c.from.router) in
        let (w, is_w, least) = none_better (suc hops) router c.port c.from u c.neighbour off is in (
          w,
          is_w,
          no_worse_then w (by_port (cost_of c.from) u) v least
              (subst (λ (x : Way). NoWorse (by_port (cost_of c.from) u) x) (sym c.by) (goes_on (cost_of c.from) u c.way less)),
        )

    pub more : (hops router : ℕ) (v : Way) → within hops router ≡ Some v → (w : Way) × (within (suc hops) router ≡ Some w) × NoWorse w v
    more hops router v e = more_by hops router v e (on_or_off router)

    pub many_more : (further hops total router : ℕ) (v : Way) → total ≡ further + hops → within hops router ≡ Some v
        → (w : Way) × (within total router ≡ Some w) × NoWorse w v
    many_more zero hops total router v sum e =
        let same : hops ≡ total = omega (arith, sum) in
        (v, subst (λ (n : ℕ). within n router ≡ Some v) same e, itself v)
    many_more (suc further) hops total router v sum e =
        let (u, is, less) = many_more further hops (further + hops) router v refl e in
        let (w, is_w, least) = more (further + hops) router u is in
        let same : suc (further + hops) ≡ total = omega (arith, sum) in
        (w, subst (λ (n : ℕ). within n router ≡ Some w) same is_w, no_worse_then w u v least less)

    -- a way has no more hops than it may
    few_by : (hops router : ℕ) (v : Way) → within hops router ≡ Some v → OnOrOff router → v.hops ≤ hops
    few_by hops router v e (inl on) = grind (arith, is_there, own_is, own)
    few_by zero router v e (inr off) =
        let there = is_there 0 router v e in
        nothing (sym (first router there ∙ none_of_own router off) ∙ e)
    few_by (suc hops) router v e (inr off) =
        let c = came hops router v off e in
        let h = few_by hops c.from.router c.way c.there (on_or_off c.from.router) in
        subst (λ (w : Way). w.hops ≤ suc hops) (sym c.by) (omega (arith, h))

    pub few : (hops router : ℕ) (v : Way) → within hops router ≡ Some v → v.hops ≤ hops
    few hops router v e = few_by hops router v e (on_or_off router)

    -- a way with fewer hops than it may have needs no more
    enough_by : (hops router : ℕ) (v : Way) → within (suc hops) router ≡ Some v → v.hops ≤ hops → OnOrOff router → within hops router ≡ Some v
    enough_by hops router v e least (inl on) =
        let there = is_there (suc hops) router v e in
        own hops router there on ∙ sym (own (suc hops) router there on) ∙ e
    enough_by zero router v e least (inr off) =
        let c = came 0 router v off e in
        let h = ap (λ (w : Way). w.hops) c.by in
        absurd (omega (arith, h, least))
    enough_by (suc hops) router v e least (inr off) =
        let c = came (suc hops) router v off e in
        let h = ap (λ (w : Way). w.hops) c.by in
        let deeper = enough_by hops c.from.router c.way c.there (omega (arith, h, least)) (on_or_off c.from.router) in
        let (w, is_w, no_worse) = none_better hops router c.port c.from c.way c.neighbour off deeper in
        let (x, is_x, less) = more (suc hops) router w is_w in
        let same : x ≡ v = same_some (within (suc (suc hops)) router) x v is_x e in
        let one : NoWorse v w = subst (λ (y : Way). NoWorse y w) same less in
        let two : NoWorse w v = subst (λ (y : Way). NoWorse w y) (sym c.by) no_worse in
        is_w ∙ ap Some (both_no_worse w v two one)

    pub enough : (hops router : ℕ) (v : Way) → within (suc hops) router ≡ Some v → v.hops ≤ hops → within hops router ≡ Some v
    enough hops router v e least = enough_by hops router v e least (on_or_off router)

-- the ports that are up are ports
pub ups_within : (net : Internet) (histories : List History) (router : ℕ) → AllByRecursion (λ j. j < length (ports_of net router)) (ups net histories router)
ups_within net histories router = ports_up-within (ports_of net router) (history_of histories router)
