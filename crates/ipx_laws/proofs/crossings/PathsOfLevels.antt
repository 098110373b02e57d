-- The paths of a tree's receptions, level by level: each is its parent's, and its own port behind it.
use Rattle.std.proofs.Common.{◌≡◌, refl, sym, ap, ap₂, ◌∙◌, subst, ℕ, zero, suc, ◌+◌, List, [], ◌∷◌, ◌++◌, length, map, get_or, None, Some, append_assoc, append-nil, length-append}
use Rattle.std.specs.List.{AllByRecursion}
use Rattle.std.proofs.lemmas.List.{length-map, map-append}
use Rattle.ipx_internet.specs.Delivery.{delivered}
use Rattle.ipx_internet.specs.Internet.{Place}
use Rattle.ipx_internet.specs.Tree.{Router, Copy, net_of, forwards, receivers, children, next_level, levels, joined}
use Rattle.ipx_internet.proofs.lists.EachElement.{all_of, all-map, all-flat_map}
use Rattle.ipx_laws.specs.Crossings.{path_by, paths_behind}

-- a reception with its path
pub record Node : Type 0 where
  pub path : List Place
  pub copy : Copy

abbrev pub paths_of : List Node → List (List Place)
paths_of nodes = map (λ n. n.path) nodes

abbrev pub copies_of : List Node → List Copy
copies_of nodes = map (λ n. n.copy) nodes

-- receptions of what one sent on that has that path
abbrev pub reached : List Place → List Copy → List Node
reached path copies = map (λ c. record { path = path ++ c.to ∷ []; copy = c }) copies

copies_reached : (path : List Place) (copies : List Copy) → copies_of (reached path copies) ≡ copies
copies_reached path [] = refl
copies_reached path (c ∷ copies) = ap (λ (cs : List Copy). c ∷ cs) (copies_reached path copies)

in_middle : {X : Type 0} (before : List X) (x : X) (after : List X) (other : X) → get_or (before ++ x ∷ after) (length before) other ≡ x
in_middle [] x after other = refl
in_middle (y ∷ before) x after other = in_middle before x after other

-- ---- paths behind others

paths-append : (known : List (List Place)) (xs ys : List Copy) → paths_behind known (xs ++ ys) ≡ paths_behind (paths_behind known xs) ys
paths-append known [] ys = refl
paths-append known (x ∷ xs) ys = paths-append (known ++ path_by known x ∷ []) xs ys

-- those of the children of one
behind_one : (before : List (List Place)) (path : List Place) (after : List (List Place)) (copies : List Copy)
    → AllByRecursion (λ c. c.parent ≡ Some (length before)) copies
    → paths_behind (before ++ path ∷ after) copies ≡ (before ++ path ∷ after) ++ paths_of (reached path copies)
behind_one before path after [] all = sym (append-nil (before ++ path ∷ after))
behind_one before path after (c ∷ copies) all =
    let known : List (List Place) = before ++ path ∷ after in
    let new : List Place = path ++ c.to ∷ [] in
    let own : path_by known c ≡ new = rw all.0 (ap (λ (front : List Place). front ++ c.to ∷ []) (in_middle before path after [])) in
    let inside : known ++ new ∷ [] ≡ before ++ path ∷ (after ++ new ∷ []) = append_assoc before (path ∷ after) (new ∷ []) in
    let rest = behind_one before path (after ++ new ∷ []) copies all.1 in
    ap (λ (last : List Place). paths_behind (known ++ last ∷ []) copies) own
    ∙ ap (λ (front : List (List Place)). paths_behind front copies) inside
    ∙ rest
    ∙ ap (λ (front : List (List Place)). front ++ paths_of (reached path copies)) (sym inside)
    ∙ append_assoc known (new ∷ []) (paths_of (reached path copies))

module _ (routers : List Router) where
  parents : (number : ℕ) (c : Copy) → AllByRecursion (λ x. x.parent ≡ Some number) (children routers number c)
  parents number c =
      all-flat_map (λ s. Unit {0}) (λ x. x.parent ≡ Some number) (receivers routers number c)
      (λ s any. all-map (λ to. Unit {0}) (λ x. x.parent ≡ Some number) (λ to. record { parent = Some number; to = to; bytes = s.bytes }) (λ to one. refl)
      (delivered (net_of routers) (record { router = c.to.router; port = s.port }) s.link)
      (all_of (λ to. Unit {0}) (λ to. tt) (delivered (net_of routers) (record { router = c.to.router; port = s.port }) s.link)))
      (forwards routers c) (all_of (λ s. Unit {0}) (λ s. tt) (forwards routers c))

  -- ---- the next level, with paths

  abbrev pub next_nodes : ℕ → List Node → List Node
  next_nodes first [] = []
  next_nodes first (n ∷ nodes) = reached n.path (children routers first n.copy) ++ next_nodes (first + 1) nodes

  copies_next : (first : ℕ) (nodes : List Node) → copies_of (next_nodes first nodes) ≡ next_level routers first (copies_of nodes)
  copies_next first [] = refl
  copies_next first (n ∷ nodes) =
      map-append (λ (n : Node). n.copy) (reached n.path (children routers first n.copy)) (next_nodes (first + 1) nodes)
      ∙ ap₂ (λ (xs ys : List Copy). xs ++ ys) (copies_reached n.path (children routers first n.copy)) (copies_next (first + 1) nodes)

  behind_level : (first : ℕ) (before : List (List Place)) (nodes : List Node) (after : List (List Place)) → length before ≡ first
      → paths_behind (before ++ (paths_of nodes ++ after)) (next_level routers first (copies_of nodes))
      ≡ (before ++ (paths_of nodes ++ after)) ++ paths_of (next_nodes first nodes)
  behind_level first before [] after counted = sym (append-nil (before ++ after))
  behind_level first before (n ∷ nodes) after counted =
      let known : List (List Place) = before ++ n.path ∷ (paths_of nodes ++ after) in
      let new : List Node = reached n.path (children routers first n.copy) in
      let one = behind_one before n.path (paths_of nodes ++ after) (children routers first n.copy)
      (subst (λ (k : ℕ). AllByRecursion (λ x. x.parent ≡ Some k) (children routers first n.copy)) (sym counted) (parents first n.copy)) in
      let front : List (List Place) = before ++ n.path ∷ [] in
      let back : List (List Place) = after ++ paths_of new in
      let inside : known ++ paths_of new ≡ front ++ (paths_of nodes ++ back) =
      append_assoc before (n.path ∷ (paths_of nodes ++ after)) (paths_of new)
      ∙ ap (λ (xs : List (List Place)). before ++ n.path ∷ xs) (append_assoc (paths_of nodes) after (paths_of new))
      ∙ sym (append_assoc before (n.path ∷ []) (paths_of nodes ++ back)) in
      let longer : length front ≡ first + 1 = length-append before (n.path ∷ []) ∙ ap (λ (k : ℕ). k + 1) counted in
      let rest = behind_level (first + 1) front nodes back longer in
      let level : List Copy = next_level routers (first + 1) (copies_of nodes) in
      let last : List (List Place) = paths_of (next_nodes (first + 1) nodes) in
      paths-append known (children routers first n.copy) level
      ∙ ap (λ (xs : List (List Place)). paths_behind xs level) (one ∙ inside)
      ∙ rest
      ∙ ap (λ (xs : List (List Place)). xs ++ last) (sym inside)
      ∙ append_assoc known (paths_of new) last
      ∙ ap (λ (xs : List (List Place)). known ++ xs) (sym (map-append (λ (n : Node). n.path) new (next_nodes (first + 1) nodes)))

  -- ---- all levels

  abbrev pub nodes_to : ℕ → ℕ → List Node → List Node
  nodes_to zero first nodes = []
  nodes_to (suc n) first nodes = nodes ++ nodes_to n (first + length nodes) (next_nodes first nodes)

  pub copies_to : (n first : ℕ) (nodes : List Node) → copies_of (nodes_to n first nodes) ≡ joined (levels routers n first (copies_of nodes))
  copies_to zero first nodes = refl
  copies_to (suc n) first nodes =
      let next : List Node = next_nodes first nodes in
      map-append (λ (n : Node). n.copy) nodes (nodes_to n (first + length nodes) next)
      ∙ ap (λ (xs : List Copy). copies_of nodes ++ xs)
      (copies_to n (first + length nodes) next
      ∙ ap₂ (λ (k : ℕ) (xs : List Copy). joined (levels routers n (first + k) xs)) (sym (length-map nodes (λ (n : Node). n.copy))) (copies_next first nodes))

  paths_to : (n first : ℕ) (before : List (List Place)) (nodes : List Node) → length before ≡ first
      → paths_behind before (copies_of nodes) ≡ before ++ paths_of nodes
      → paths_behind before (copies_of (nodes_to n first nodes)) ≡ before ++ paths_of (nodes_to n first nodes)
  paths_to zero first before nodes counted own = sym (append-nil before)
  paths_to (suc n) first before nodes counted own =
      let next : List Node = next_nodes first nodes in
      let further : List Node = nodes_to n (first + length nodes) next in
      let known : List (List Place) = before ++ paths_of nodes in
      let longer : length known ≡ first + length nodes =
      length-append before (paths_of nodes) ∙ ap₂ (λ (a b : ℕ). a + b) counted (length-map nodes (λ (n : Node). n.path)) in
      let whole : before ++ (paths_of nodes ++ []) ≡ known = ap (λ (xs : List (List Place)). before ++ xs) (append-nil (paths_of nodes)) in
      let level : paths_behind known (copies_of next) ≡ known ++ paths_of next =
      ap₂ (λ (xs : List (List Place)) (cs : List Copy). paths_behind xs cs) (sym whole) (copies_next first nodes)
      ∙ behind_level first before nodes [] counted
      ∙ ap (λ (xs : List (List Place)). xs ++ paths_of next) whole in
      let rest = paths_to n (first + length nodes) known next longer level in
      ap (λ (cs : List Copy). paths_behind before cs) (map-append (λ (n : Node). n.copy) nodes further)
      ∙ paths-append before (copies_of nodes) (copies_of further)
      ∙ ap (λ (xs : List (List Place)). paths_behind xs (copies_of further)) own
      ∙ rest
      ∙ append_assoc before (paths_of nodes) (paths_of further)
      ∙ ap (λ (xs : List (List Place)). before ++ xs) (sym (map-append (λ (n : Node). n.path) nodes further))

  -- ---- a tree

  abbrev pub nodes_of : ℕ → Copy → List Node
  nodes_of n c = nodes_to n 0 (record { path = []; copy = c } ∷ [])

  pub paths_of_tree : (n : ℕ) (c : Copy) → c.parent ≡ None → paths_behind [] (joined (levels routers n 0 (c ∷ []))) ≡ paths_of (nodes_of n c)
  paths_of_tree n c first =
      let start : List Node = record { path = []; copy = c } ∷ [] in
      ap (λ (cs : List Copy). paths_behind [] cs) (sym (copies_to n 0 start)) ∙ paths_to n 0 [] start refl (rw first refl)
