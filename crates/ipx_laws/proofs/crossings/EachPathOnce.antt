-- Level by level: the paths of the receptions are those of so many forwards that there are, each once.
use Rattle.std.proofs.Common.{◌≡◌, ◌≢◌, ◌↔◌, refl, sym, ap, ap₂, ◌∙◌, subst, ℕ, zero, suc, ◌+◌, ◌<◌, ◌≤◌, true, false, List, [], ◌∷◌, ◌++◌, length, map, filter, Some, slice_get, inl, inr, arith, length-append}
use Rattle.std.specs.List.{AllByRecursion}
use Rattle.std.proofs.lemmas.Bool.{cases_eq, eq-eqb}
use Rattle.std.proofs.lemmas.List.{map-append}
use Rattle.ipx_wire.specs.Crossed.{is_among}
use Rattle.ipx_wire.specs.Numbers.{crossed_places}
use Rattle.ipx_wire.specs.Packet.{Parts, IsPacket}
use Rattle.ipx_wire.specs.Piece.{IsBytes}
use Rattle.ipx_wire.specs.declared.network.Network.{Network}
use Rattle.ipx_router.specs.Why.{is_propagated}
use Rattle.ipx_internet.specs.Different.{AreDifferent}
use Rattle.ipx_internet.specs.Internet.{Place, network_of, IsInternet}
use Rattle.ipx_internet.specs.Tree.{Router, IsRouter, Copy, net_of, root, children, tree_to}
use Rattle.ipx_internet.proofs.lists.EachElement.{all_of, all_then, all-append, all_mapped, all_apart, differ-append, all_passed, differ-front, differ-filter}
use Rattle.ipx_internet.proofs.packets.SentOnIsBytes.{SentOn}
use Rattle.ipx_internet.proofs.packets.SentOnReadAgain.{Wire}
use Rattle.ipx_internet.proofs.trees.NextLevelIsBounded.{Relaying}
use Rattle.ipx_laws.specs.Crossings.{end_of, IsForwardedAlong, IsCrossing, paths, is_at}
use Rattle.ipx_laws.proofs.crossings.OneForwardMore.{IsAlong, begins, children_along, children_differ, child_there}
use Rattle.ipx_laws.proofs.crossings.PathsOfLevels.{Node, paths_of, copies_of, reached, next_nodes, nodes_to, nodes_of, copies_to, paths_of_tree}
use Rattle.ipx_laws.proofs.crossings.PlacesOfAPath.{whole, passed, end_more, passed_more, IsLast, none, one, last_of, leads_less}
use Rattle.ipx_laws.proofs.lists.EachOnce.{IsOneOf, one_at, where_one_is, one_is, all_one, no_longer, all_parts, differ_by, length-filter_map}
use Rattle.ipx_laws.proofs.lists.FirstAndRest.{rest_of}
use Rattle.ipx_laws.proofs.lists.SomeElement.{AnyIs, any_then, any_and_all, any_in_front, any_behind, any-filter, any-map}

module _ (w : Wire) (laws : Relaying) (over : SentOn) (routers : List Router) (made : IsInternet (net_of routers)) (right : AllByRecursion IsRouter routers)
    (p : Parts) (from : Place) where
  abbrev IsAt : Node → Type 0
  IsAt n = IsAlong w laws over routers made right p from n.path n.copy

  abbrev node : List Place → Copy → Node
  node path c = record { path = path ++ c.to ∷ []; copy = c }

  -- ---- what the next level is

  next_along : (first : ℕ) (nodes : List Node) → AllByRecursion IsAt nodes → AllByRecursion IsAt (next_nodes routers first nodes)
  next_along first [] all = tt
  next_along first (n ∷ nodes) all =
      all-append IsAt (reached n.path (children routers first n.copy)) (next_nodes routers (first + 1) nodes)
      (all_mapped IsAt (node n.path) (children routers first n.copy) (children_along w laws over routers made right p from n.path n.copy all.0 first))
      (next_along (first + 1) nodes all.1)

  next_longer : (k first : ℕ) (nodes : List Node) → AllByRecursion (λ n. length n.path ≡ k) nodes
      → AllByRecursion (λ n. length n.path ≡ suc k) (next_nodes routers first nodes)
  next_longer k first [] all = tt
  next_longer k first (n ∷ nodes) all =
      all-append (λ n. length n.path ≡ suc k) (reached n.path (children routers first n.copy)) (next_nodes routers (first + 1) nodes)
      (all_mapped (λ n. length n.path ≡ suc k) (node n.path) (children routers first n.copy)
      (all_of (λ c. length (n.path ++ c.to ∷ []) ≡ suc k)
      (λ c. let longer = length-append n.path (c.to ∷ []) in let so_far = all.0 in omega (arith, longer, so_far)) (children routers first n.copy)))
      (next_longer k (first + 1) nodes all.1)

  -- ---- no two of its paths are the same

  last_same : (path : List Place) (a b : Place) → path ++ a ∷ [] ≡ path ++ b ∷ [] → a ≡ b
  last_same path a b same = sym (end_more from path a) ∙ ap (λ (ps : List Place). end_of from ps) same ∙ end_more from path b

  front_same : (front path : List Place) (a b : Place) → front ++ a ∷ [] ≡ path ++ b ∷ [] → front ≡ path
  front_same front path a b same =
      let passes : (ps : List Place) (x : Place) → passed from (ps ++ x ∷ []) ≡ from ∷ ps = λ ps x. passed_more from ps x ∙ sym (whole from ps) in
      rest_of from from front path (sym (passes front a) ∙ ap (λ (ps : List Place). passed from ps) same ∙ passes path b)

  -- a path with one port behind that one, or behind another
  abbrev GoesOn : List Place → List Place → Type 0
  GoesOn path longer = (to : Place) × (longer ≡ path ++ to ∷ [])

  abbrev GoesOnElse : List Place → List Place → Type 0
  GoesOnElse path longer = (other : List Place) × (to : Place) × (other ≢ path) × (longer ≡ other ++ to ∷ [])

  reached_go_on : (path : List Place) (copies : List Copy) → AllByRecursion (GoesOn path) (paths_of (reached path copies))
  reached_go_on path [] = tt
  reached_go_on path (c ∷ copies) = ((c.to, refl), reached_go_on path copies)

  go_on_else : (path other : List Place) (copies : List Copy) → other ≢ path → AllByRecursion (GoesOnElse path) (paths_of (reached other copies))
  go_on_else path other copies off =
      all_then (GoesOn other) (GoesOnElse path) (λ longer on. (other, on.0, off, on.1)) (paths_of (reached other copies)) (reached_go_on other copies)

  next_go_on_else : (path : List Place) (first : ℕ) (nodes : List Node) → AllByRecursion (λ other. other ≢ path) (paths_of nodes)
      → AllByRecursion (GoesOnElse path) (paths_of (next_nodes routers first nodes))
  next_go_on_else path first [] off = tt
  next_go_on_else path first (n ∷ nodes) off =
      let new : List Node = reached n.path (children routers first n.copy) in
      let rest : List Node = next_nodes routers (first + 1) nodes in
      subst (λ (ps : List (List Place)). AllByRecursion (GoesOnElse path) ps) (sym (map-append (λ (n : Node). n.path) new rest))
      (all-append (GoesOnElse path) (paths_of new) (paths_of rest) (go_on_else path n.path (children routers first n.copy) off.0)
      (next_go_on_else path (first + 1) nodes off.1))

  reached_differ : (path : List Place) (copies : List Copy) → AreDifferent (map (λ c. c.to) copies) → AreDifferent (paths_of (reached path copies))
  reached_differ path copies differ =
      subst (λ (ps : List (List Place)). AreDifferent ps) (sym (twice copies))
      (differ_by (λ c. Unit {0}) (λ (c : Copy). c.to) (λ (c : Copy). path ++ c.to ∷ []) (λ a b one two same. last_same path a.to b.to same) copies
      (all_of (λ c. Unit {0}) (λ c. tt) copies) differ)
    where
      twice : (copies : List Copy) → paths_of (reached path copies) ≡ map (λ c. path ++ c.to ∷ []) copies
      twice [] = refl
      twice (c ∷ copies) = ap (λ (ps : List (List Place)). (path ++ c.to ∷ []) ∷ ps) (twice copies)

  next_differ : (first : ℕ) (nodes : List Node) → AllByRecursion IsAt nodes → AreDifferent (paths_of nodes)
      → AreDifferent (paths_of (next_nodes routers first nodes))
  next_differ first [] all differ = tt
  next_differ first (n ∷ nodes) all differ =
      let copies : List Copy = children routers first n.copy in
      let new : List Node = reached n.path copies in
      let rest : List Node = next_nodes routers (first + 1) nodes in
      subst (λ (ps : List (List Place)). AreDifferent ps) (sym (map-append (λ (n : Node). n.path) new rest))
      (differ-append (paths_of new) (paths_of rest)
      (reached_differ n.path copies (children_differ w laws over routers made right p from n.path n.copy all.0 first))
      (next_differ (first + 1) nodes all.1 differ.1)
      (all_apart (GoesOn n.path) (GoesOnElse n.path)
      (λ longer on off. off.2 (sym (front_same n.path off.0 on.0 off.1 (sym on.1 ∙ off.3))))
      (paths_of new) (paths_of rest) (reached_go_on n.path copies) (next_go_on_else n.path (first + 1) nodes differ.0)))

  -- ---- each path of so many forwards is one of a reception

  abbrev Covers : ℕ → List Node → Type 0
  Covers k nodes = (path : List Place) → length path ≡ k → IsCrossing routers p from path → AnyIs (λ n. n.path ≡ path) nodes

  shorter : (path : List Place) (next : Place) → IsForwardedAlong routers p from (path ++ next ∷ []) → IsCrossing routers p from path
  shorter path next on =
      let network : Place → Network = λ place. network_of (net_of routers) place in
      inr (record {
        leads = (leads_less routers p.header from path next on.leads).0;
        once =
            differ-front (map network (from ∷ path)) (map network (next ∷ []))
            (subst (λ (ns : List Network). AreDifferent ns) (map-append network (from ∷ path) (next ∷ [])) on.once);
        networks = on.networks;
        crossed = on.crossed;
        new = (all_parts (λ place. is_among (network place) on.networks ≡ false) (from ∷ path) (next ∷ []) on.new).0;
        few =
            let few = on.few in
            let longer = length-append path (next ∷ []) in
            omega (arith, few, longer);
        source = on.source;
      })

  next_any : (path : List Place) (next : Place) → IsForwardedAlong routers p from (path ++ next ∷ []) → (first : ℕ) (nodes : List Node)
      → AnyIs (λ n. (n.path ≡ path) × IsAt n) nodes → AnyIs (λ n. n.path ≡ path ++ next ∷ []) (next_nodes routers first nodes)
  next_any path next on first [] any = absurd any
  next_any path next on first (n ∷ nodes) (inl here) =
      any_in_front (λ n. n.path ≡ path ++ next ∷ []) (reached n.path (children routers first n.copy)) (next_nodes routers (first + 1) nodes)
      (any-map (λ c. c.to ≡ next) (λ n. n.path ≡ path ++ next ∷ []) (node n.path)
      (λ c e. ap₂ (λ (ps : List Place) (last : Place). ps ++ last ∷ []) here.0 e) (children routers first n.copy)
      (child_there w laws over routers made right p from n.path n.copy here.1 next
      (subst (λ (ps : List Place). IsForwardedAlong routers p from (ps ++ next ∷ [])) (sym here.0) on) first))
  next_any path next on first (n ∷ nodes) (inr behind) =
      any_behind (λ n. n.path ≡ path ++ next ∷ []) (reached n.path (children routers first n.copy)) (next_nodes routers (first + 1) nodes)
      (next_any path next on (first + 1) nodes behind)

  next_covers : (k first : ℕ) (nodes : List Node) → AllByRecursion IsAt nodes → Covers k nodes → Covers (suc k) (next_nodes routers first nodes)
  next_covers k first nodes all covers path long way = by (last_of path) way
    where
      by : IsLast path → IsCrossing routers p from path → AnyIs (λ n. n.path ≡ path) (next_nodes routers first nodes)
      by last (inl e) = let no = ap (λ (ps : List Place). length ps) e in absurd (omega (arith, long, no))
      by (none e) (inr on) = let no = ap (λ (ps : List Place). length ps) e in absurd (omega (arith, long, no))
      by (one front next e) (inr on) =
          let forwarded : IsForwardedAlong routers p from (front ++ next ∷ []) = subst (λ (ps : List Place). IsForwardedAlong routers p from ps) e on in
          let long_front : length front ≡ k =
          let so_long = ap (λ (ps : List Place). length ps) e in
          let longer = length-append front (next ∷ []) in
          omega (arith, long, so_long, longer) in
          let there = any_and_all (λ n. n.path ≡ front) IsAt nodes (covers front long_front (shorter front next forwarded)) all in
          any_then (λ n. n.path ≡ front ++ next ∷ []) (λ n. n.path ≡ path) (λ n same. same ∙ sym e) (next_nodes routers first nodes)
          (next_any front next forwarded first nodes there)

  -- ---- all levels

  all_along : (m first : ℕ) (nodes : List Node) → AllByRecursion IsAt nodes → AllByRecursion IsAt (nodes_to routers m first nodes)
  all_along zero first nodes all = tt
  all_along (suc m) first nodes all =
      let next : List Node = next_nodes routers first nodes in
      all-append IsAt nodes (nodes_to routers m (first + length nodes) next) all (all_along m (first + length nodes) next (next_along first nodes all))

  all_long : (m k first : ℕ) (nodes : List Node) → AllByRecursion (λ n. length n.path ≡ k) nodes
      → AllByRecursion (λ n. k ≤ length n.path) (nodes_to routers m first nodes)
  all_long zero k first nodes all = tt
  all_long (suc m) k first nodes all =
      let next : List Node = next_nodes routers first nodes in
      let further : List Node = nodes_to routers m (first + length nodes) next in
      all-append (λ n. k ≤ length n.path) nodes further
      (all_then (λ n. length n.path ≡ k) (λ n. k ≤ length n.path) (λ n same. omega (arith, same)) nodes all)
      (all_then (λ n. suc k ≤ length n.path) (λ n. k ≤ length n.path) (λ n more. omega (arith, more)) further
      (all_long m (suc k) (first + length nodes) next (next_longer k first nodes all)))

  all_differ : (m k first : ℕ) (nodes : List Node) → AllByRecursion IsAt nodes → AllByRecursion (λ n. length n.path ≡ k) nodes
      → AreDifferent (paths_of nodes) → AreDifferent (paths_of (nodes_to routers m first nodes))
  all_differ zero k first nodes all long differ = tt
  all_differ (suc m) k first nodes all long differ =
      let next : List Node = next_nodes routers first nodes in
      let further : List Node = nodes_to routers m (first + length nodes) next in
      let longer = next_longer k first nodes long in
      subst (λ (ps : List (List Place)). AreDifferent ps) (sym (map-append (λ (n : Node). n.path) nodes further))
      (differ-append (paths_of nodes) (paths_of further) differ
      (all_differ m (suc k) (first + length nodes) next (next_along first nodes all) longer (next_differ first nodes all differ))
      (all_apart (λ path. length path ≡ k) (λ path. suc k ≤ length path) (λ path same more. absurd (omega (arith, same, more))) (paths_of nodes) (paths_of further)
      (all_mapped (λ path. length path ≡ k) (λ (n : Node). n.path) nodes long)
      (all_mapped (λ path. suc k ≤ length path) (λ (n : Node). n.path) further (all_long m (suc k) (first + length nodes) next longer))))

  all_covered : (m k first : ℕ) (nodes : List Node) → AllByRecursion IsAt nodes → Covers k nodes → (path : List Place) → k ≤ length path
      → length path < k + m → IsCrossing routers p from path → AnyIs (λ n. n.path ≡ path) (nodes_to routers m first nodes)
  all_covered zero k first nodes all covers path long few way = absurd (omega (arith, long, few))
  all_covered (suc m) k first nodes all covers path long few way =
      let next : List Node = next_nodes routers first nodes in
      let further : List Node = nodes_to routers m (first + length nodes) next in
      elim (cases_eq (length path) k) [
        | inl same ↦ any_in_front (λ n. n.path ≡ path) nodes further (covers path same way)
        | inr other ↦
            any_behind (λ n. n.path ≡ path) nodes further
            (all_covered m (suc k) (first + length nodes) next (next_along first nodes all) (next_covers k first nodes all covers) path
            (omega (arith, long, other)) (omega (arith, few)) way)
      ]

  ends_of : (nodes : List Node) → AllByRecursion IsAt nodes → map (end_of from) (paths_of nodes) ≡ map (λ c. c.to) (copies_of nodes)
  ends_of [] all = refl
  ends_of (n ∷ nodes) all = ap₂ (λ (place : Place) (places : List Place). place ∷ places) (sym all.0.to) (ends_of nodes all.1)

  -- ---- the tree

  module _ (bytes : List ℕ) (are : IsBytes bytes) (is : IsPacket bytes p) (propagates : is_propagated p.header ≡ true) (n : ℕ) where
    abbrev copies : List Copy
    copies = tree_to routers n (root from bytes)

    abbrev start : List Node
    start = record { path = []; copy = root from bytes } ∷ []

    abbrev nodes : List Node
    nodes = nodes_of routers n (root from bytes)

    along : AllByRecursion IsAt nodes
    along = all_along n 0 start (begins w laws over routers made right p from bytes are is propagates, tt)

    paths_are : paths copies ≡ paths_of nodes
    paths_are = paths_of_tree routers n (root from bytes) refl

    pub ends : map (end_of from) (paths copies) ≡ map (λ c. c.to) copies
    ends =
        ap (λ (ps : List (List Place)). map (end_of from) ps) paths_are ∙ ends_of nodes along
        ∙ ap (λ (cs : List Copy). map (λ (c : Copy). c.to) cs) (copies_to routers n 0 start)

    pub once : AreDifferent (paths copies)
    once =
        subst (λ (ps : List (List Place)). AreDifferent ps) (sym paths_are)
        (all_differ n 0 0 start (begins w laws over routers made right p from bytes are is propagates, tt) (refl, tt) (tt, tt))

    each : AllByRecursion (λ path. IsCrossing routers p from path) (paths copies)
    each =
        subst (λ (ps : List (List Place)). AllByRecursion (λ path. IsCrossing routers p from path) ps) (sym paths_are)
        (all_mapped (λ path. IsCrossing routers p from path) (λ (n : Node). n.path) nodes
        (all_then IsAt (λ n. IsCrossing routers p from n.path) (λ n at. at.way) nodes along))

    none_long : (path : List Place) → length path ≡ 0 → path ≡ []
    none_long [] e = refl
    none_long (x ∷ path) e = absurd (omega (arith, e))

    no_more_than_eight : (path : List Place) → IsCrossing routers p from path → length path ≤ crossed_places
    no_more_than_eight path (inl e) = let zero_long = ap (λ (ps : List Place). length ps) e in omega (arith, zero_long)
    no_more_than_eight path (inr on) = let few = on.few in omega (arith, few)

    module _ (deep : crossed_places < n) where
      every : (path : List Place) → IsCrossing routers p from path → IsOneOf path (paths copies)
      every path way =
          let few = no_more_than_eight path way in
          let there = all_covered n 0 0 start (begins w laws over routers made right p from bytes are is propagates, tt)
          (λ path none way. inl (sym (none_long path none))) path (omega arith) (omega (arith, few, deep)) way in
          subst (λ (ps : List (List Place)). IsOneOf path ps) (sym paths_are)
          (any-map (λ n. n.path ≡ path) (λ other. other ≡ path) (λ (n : Node). n.path) (λ n e. e) nodes there)

      pub exactly : (path : List Place) → (((k : ℕ) × (slice_get (paths copies) k ≡ Some path)) ↔ IsCrossing routers p from path)
      exactly path = (
        λ there. one_is (λ path. IsCrossing routers p from path) (paths copies) path each (one_at (paths copies) there.0 path there.1),
        λ way. where_one_is (paths copies) path (every path way),
      )

      -- ---- how many end at a port

      at_place : (to place : Place) → is_at to place ≡ true → place ≡ to
      at_place to place e = grind arith

      is_itself : (to : Place) → is_at to to ≡ true
      is_itself to = grind (arith, eq-eqb)

      pub as_many : (to : Place) (ways : List (List Place)) → AreDifferent ways
          → ((path : List Place) → (((k : ℕ) × (slice_get ways k ≡ Some path)) ↔ IsCrossing routers p from path × (end_of from path ≡ to)))
          → length (filter (λ c. is_at to c.to) copies) ≡ length ways
      as_many to ways differ all =
          let here : List (List Place) = filter (λ path. is_at to (end_of from path)) (paths copies) in
          let counted : length (filter (λ c. is_at to c.to) copies) ≡ length here =
          sym (length-filter_map (is_at to) (λ (c : Copy). c.to) copies)
          ∙ ap (λ (places : List Place). length (filter (is_at to) places)) (sym ends)
          ∙ length-filter_map (is_at to) (end_of from) (paths copies) in
          let passes : AllByRecursion (λ path. IsCrossing routers p from path × (is_at to (end_of from path) ≡ true)) here =
          all_passed (λ path. IsCrossing routers p from path) (λ path. is_at to (end_of from path)) (paths copies) each in
          let listed : AllByRecursion (λ path. IsOneOf path ways) here =
          all_then (λ path. IsCrossing routers p from path × (is_at to (end_of from path) ≡ true)) (λ path. IsOneOf path ways)
          (λ path way. let there = (all path).1 (way.0, at_place to (end_of from path) way.1) in one_at ways there.0 path there.1) here passes in
          let received : AllByRecursion (λ path. IsOneOf path here) ways =
          all_then (λ path. IsOneOf path ways) (λ path. IsOneOf path here)
          (λ path listed.
          let way = (all path).0 (where_one_is ways path listed) in
          any-filter (λ other. other ≡ path) (λ path. is_at to (end_of from path))
          (λ other e. ap (λ (ps : List Place). is_at to (end_of from ps)) e ∙ ap (λ (place : Place). is_at to place) way.1 ∙ is_itself to) (paths copies)
          (every path way.0))
          ways (all_one ways) in
          let few = no_longer here ways (differ-filter (λ path. is_at to (end_of from path)) (paths copies) once) listed in
          let enough = no_longer ways here differ received in
          omega (arith, counted, few, enough)
