-- What is listed step by step is the tree: each step lists the children of one more reception, in the order of the list.
use Rattle.std.proofs.Common.{◌≡◌, refl, sym, ap, ap₂, ◌∙◌, subst, ℕ, zero, suc, ◌+◌, ◌<◌, ◌≤◌, true, List, [], ◌∷◌, ◌++◌, length, map, filter, flat_map, Some, arith, length-append}
use Rattle.std.specs.List.{AllByRecursion}
use Rattle.std.proofs.Math.Seq.{get_or-append_seam}
use Rattle.std.proofs.lemmas.List.{append_assoc, append-nil, map-append, length-map}
use Rattle.ipx_router.specs.Port.{Port, port_at}
use Rattle.ipx_router.specs.Relays.{Sent}
use Rattle.ipx_router.specs.declared.outcome.Outcome.{Outcome}
use Rattle.ipx_internet.specs.Delivery.{receives, delivered}
use Rattle.ipx_internet.specs.Internet.{Place, IsPlace}
use Rattle.ipx_internet.specs.Listed.{Listing, copy_at, waits_next, receivers_by, children_by, IsListed}
use Rattle.ipx_internet.specs.inside.Stations.{stations_on, place_of, hears, AreOf}
use Rattle.ipx_internet.specs.Traced.{tree, outcome_at}
use Rattle.ipx_internet.specs.Tree.{Router, Copy, net_of, router_at, forwards, receivers, children, next_level, levels, joined, tree_to, IsTree}
use Rattle.ipx_internet.specs.declared.stations.Station.{Station}
use Rattle.ipx_internet.proofs.lists.EachElement.{all-append, all_of, all-map, all-flat_map}
use Rattle.ipx_internet.proofs.places.EachPortOnce.{delivered_within}
use Rattle.ipx_internet.proofs.places.StationsThatHear.{heard}
use Rattle.ipx_internet.proofs.trees.PropagatedIsBounded.{ports_same}

-- each of two lists begins the other
both_fronts : {X : Type 0} (xs ys more less : List X) → xs ++ more ≡ ys → ys ++ less ≡ xs → xs ≡ ys
both_fronts xs ys more less one two =
    let a = length-append xs more in
    let b = length-append ys less in
    let c : length (xs ++ more) ≡ length ys = ap (λ zs. length zs) one in
    let d : length (ys ++ less) ≡ length xs = ap (λ zs. length zs) two in
    let none : more ≡ [] = empty more (omega (arith, a, b, c, d)) in
    sym (append-nil xs) ∙ ap (λ zs. xs ++ zs) (sym none) ∙ one
  where
    empty : {X : Type 0} (zs : List X) → length zs ≡ 0 → zs ≡ []
    empty [] e = refl
    empty (z ∷ zs) e = absurd (omega (arith, e))

module _ (routers : List Router) where
  -- the next level of a level in two parts
  pub next-append : (first : ℕ) (xs ys : List Copy) → next_level routers first (xs ++ ys) ≡ next_level routers first xs ++ next_level routers (first + length xs) ys
  next-append first [] ys = grind arith
  next-append first (x ∷ xs) ys =
      let e : first + 1 + length xs ≡ first + suc (length xs) = omega arith in
      ap (λ (cs : List Copy). children routers first x ++ cs) (next-append (first + 1) xs ys)
      ∙ sym (append_assoc (children routers first x) (next_level routers (first + 1) xs) (next_level routers (first + 1 + length xs) ys))
      ∙ ap (λ (n : ℕ). (children routers first x ++ next_level routers (first + 1) xs) ++ next_level routers n ys) e

  -- all levels behind the first are the next level of all levels
  behind_first : (n first : ℕ) (level : List Copy)
      → joined (levels routers n (first + length level) (next_level routers first level)) ≡ next_level routers first (joined (levels routers n first level))
  behind_first zero first level = refl
  behind_first (suc n) first level =
      let next = next_level routers first level in
      let at = first + length level in
      ap (λ (cs : List Copy). next ++ cs) (behind_first n at next)
      ∙ sym (next-append first level (joined (levels routers n at next)))

  -- one level more: the root, and the children of all before
  pub one_level : (n : ℕ) (root : Copy) → tree_to routers (suc n) root ≡ root ∷ next_level routers 0 (tree_to routers n root)
  one_level n root = ap (λ (cs : List Copy). root ∷ cs) (behind_first n 0 (root ∷ []))

  module _ (root : Copy) where
    -- the root, and the children of all
    abbrev pub IsGrown : List Copy → Type 0
    IsGrown copies = copies ≡ root ∷ next_level routers 0 copies

    -- a tree is such a list
    pub tree_grown : (copies : List Copy) → IsTree routers root copies → IsGrown copies
    tree_grown copies is = grind (arith, one_level)

    -- and any such list begins with all levels
    pub levels_front : (copies : List Copy) → IsGrown copies → (n : ℕ) → (more : List Copy) × (tree_to routers n root ++ more ≡ copies)
    levels_front copies grown zero = (copies, refl)
    levels_front copies grown (suc n) =
        let (more, front) = levels_front copies grown n in
        let before = tree_to routers n root in
        let behind = next_level routers (0 + length before) more in (
          behind,
          ap (λ (cs : List Copy). cs ++ behind) (one_level n root)
              ∙ ap (λ (cs : List Copy). root ∷ cs) (sym (next-append 0 before more) ∙ ap (λ (cs : List Copy). next_level routers 0 cs) front)
              ∙ sym grown,
        )

    module _ (is : IsTree routers root (tree routers root)) where
      -- there is one tree
      pub one_tree : (copies : List Copy) → IsTree routers root copies → copies ≡ tree routers root
      one_tree copies other =
          let (more, front) = levels_front (tree routers root) (tree_grown (tree routers root) is) other.depth in
          let (less, back) = levels_front copies (tree_grown copies other) is.depth in
          both_fronts copies (tree routers root) more less
          (ap (λ (cs : List Copy). cs ++ more) other.all ∙ front)
          (ap (λ (cs : List Copy). cs ++ less) is.all ∙ back)

      -- the listing begins
      pub begins : (l : Listing) → l.copies ≡ root ∷ [] → l.outcomes ≡ [] → IsPlace (net_of routers) root.to → IsListed routers root l
      begins l copies outcomes there = record {
        done = [];
        waiting = root ∷ [];
        behind = next_level routers 0 (tree routers root);
        copies = copies;
        outcomes = outcomes;
        listed = copies;
        front = tree_grown (tree routers root) is ∙ ap (λ (cs : List Copy). cs ++ next_level routers 0 (tree routers root)) (sym copies);
        places = subst (λ (cs : List Copy). AllByRecursion (λ c. IsPlace (net_of routers) c.to) cs) (sym copies) (there, tt);
      }

      -- where nothing waits it is the tree
      pub ends : (l : Listing) → IsListed routers root l → length l.copies ≤ length l.outcomes → (l.copies ≡ tree routers root)
          × (l.outcomes ≡ map (outcome_at routers) (tree routers root))
      ends l listed none =
          let a : length l.copies ≡ length (listed.done ++ listed.waiting) = ap (λ cs. length cs) listed.copies in
          let b = length-append listed.done listed.waiting in
          let c : length l.outcomes ≡ length (map (outcome_at routers) listed.done) = ap (λ os. length os) listed.outcomes in
          let d = length-map listed.done (outcome_at routers) in
          let all_done : listed.waiting ≡ [] = empty listed.waiting (omega (arith, a, b, c, d, none)) in
          let same : l.copies ≡ listed.done = listed.copies ∙ ap (λ (cs : List Copy). listed.done ++ cs) all_done ∙ append-nil listed.done in
          let grown : IsGrown l.copies = listed.listed ∙ ap (λ (cs : List Copy). root ∷ next_level routers 0 cs) (sym same) in
          let (less, back) = levels_front l.copies grown is.depth in
          let whole : l.copies ≡ tree routers root =
          both_fronts l.copies (tree routers root) listed.behind less (sym listed.front) (ap (λ (cs : List Copy). cs ++ less) is.all ∙ back) in
          (whole, listed.outcomes ∙ ap (λ (cs : List Copy). map (outcome_at routers) cs) (sym same ∙ whole))
        where
          empty : (zs : List Copy) → length zs ≤ 0 → zs ≡ []
          empty [] e = refl
          empty (z ∷ zs) e = absurd (omega (arith, e))

    -- what is listed is no longer than the tree
    pub no_longer : (l : Listing) → IsListed routers root l → length l.copies ≤ length (tree routers root)
    no_longer l listed = grind (arith, length-append)

  -- the ports that receive are ports that there are
  pub children_within : (number : ℕ) (c : Copy) → AllByRecursion (λ x. IsPlace (net_of routers) x.to) (children routers number c)
  children_within number c =
      all-flat_map (λ s. Unit {0}) (λ x. IsPlace (net_of routers) x.to) (receivers routers number c)
      (λ s any.
      let from : Place = record { router = c.to.router; port = s.port } in
      all-map (λ to. IsPlace (net_of routers) to × (receives (net_of routers) from s.link to ≡ true)) (λ x. IsPlace (net_of routers) x.to)
      (λ to. record { parent = Some number; to = to; bytes = s.bytes }) (λ to within. within.0) (delivered (net_of routers) from s.link)
      (delivered_within (net_of routers) from s.link))
      (forwards routers c) (all_of (λ s. Unit {0}) (λ s. tt) (forwards routers c))

  -- one step more
  module _ (root : Copy) (is : IsTree routers root (tree routers root)) (l : Listing) (listed : IsListed routers root l)
      (waits : length l.outcomes < length l.copies) where
    abbrev c : Copy
    c = waits_next l

    abbrev more : List Copy
    more = children routers (length l.outcomes) c

    pub goes_on : (new : Listing) → new.copies ≡ l.copies ++ more → new.outcomes ≡ l.outcomes ++ outcome_at routers c ∷ [] → IsListed routers root new
    goes_on new copies outcomes = by listed.waiting listed.copies
      where
        by : (waiting : List Copy) → l.copies ≡ listed.done ++ waiting → IsListed routers root new
        by [] all =
            let a : length l.copies ≡ length (listed.done ++ []) = ap (λ cs. length cs) all in
            let b = length-append listed.done [] in
            let o : length l.outcomes ≡ length (map (outcome_at routers) listed.done) = ap (λ os. length os) listed.outcomes in
            let d = length-map listed.done (outcome_at routers) in
            absurd (omega (arith, a, b, o, d, waits))
        by (x ∷ waiting) all =
            let done = listed.done in
            let o : length l.outcomes ≡ length done = ap (λ os. length os) listed.outcomes ∙ length-map done (outcome_at routers) in
            let here : c ≡ x =
            ap₂ (λ (cs : List Copy) (n : ℕ). copy_at cs n) all o ∙ get_or-append_seam done x waiting (copy_at [] 0) in
            let kids = children routers (length done) x in
            let same : more ≡ kids = ap₂ (λ (n : ℕ) (x : Copy). children routers n x) o here in
            let once : 0 + length done ≡ length done = omega arith in
            let one : next_level routers 0 (done ++ x ∷ []) ≡ next_level routers 0 done ++ kids =
            next-append 0 done (x ∷ [])
            ∙ ap (λ (n : ℕ). next_level routers 0 done ++ (children routers n x ++ [])) once
            ∙ ap (λ (cs : List Copy). next_level routers 0 done ++ cs) (append-nil kids) in
            let grown : new.copies ≡ root ∷ next_level routers 0 (done ++ x ∷ []) =
            copies ∙ ap₂ (λ (xs ys : List Copy). xs ++ ys) listed.listed same ∙ ap (λ (cs : List Copy). root ∷ cs) (sym one) in
            let split : l.copies ≡ (done ++ x ∷ []) ++ waiting = all ∙ sym (append_assoc done (x ∷ []) waiting) in
            let behind = next_level routers (0 + length (done ++ x ∷ [])) (waiting ++ listed.behind) in
            let whole : tree routers root ≡ (done ++ x ∷ []) ++ (waiting ++ listed.behind) =
            listed.front ∙ ap (λ (cs : List Copy). cs ++ listed.behind) split ∙ append_assoc (done ++ x ∷ []) waiting listed.behind in
            record {
              done = done ++ x ∷ [];
              waiting = waiting ++ kids;
              behind = behind;
              copies =
                  copies ∙ ap₂ (λ (xs ys : List Copy). xs ++ ys) split same ∙ append_assoc (done ++ x ∷ []) waiting kids;
              outcomes =
                  outcomes ∙ ap₂ (λ (os : List Outcome) (x : Copy). os ++ outcome_at routers x ∷ []) listed.outcomes here
                  ∙ sym (map-append (outcome_at routers) done (x ∷ []));
              listed = grown;
              front =
                  tree_grown root (tree routers root) is
                  ∙ ap (λ (cs : List Copy). root ∷ next_level routers 0 cs) whole
                  ∙ ap (λ (cs : List Copy). root ∷ cs) (next-append 0 (done ++ x ∷ []) (waiting ++ listed.behind))
                  ∙ ap (λ (cs : List Copy). cs ++ behind) (sym grown);
              places =
                  subst (λ (cs : List Copy). AllByRecursion (λ c. IsPlace (net_of routers) c.to) cs) (sym copies)
                  (all-append (λ c. IsPlace (net_of routers) c.to) l.copies more listed.places (children_within (length l.outcomes) c));
            }

    -- what is listed with the next children is no longer than the tree
    pub more_no_longer : length l.copies + length more ≤ length (tree routers root)
    more_no_longer =
        let new : Listing = record { copies = l.copies ++ more; outcomes = l.outcomes ++ outcome_at routers c ∷ []; memory = l.memory } in
        let short = no_longer root new (goes_on new refl refl) in
        let both = length-append l.copies more in
        omega (arith, short, both)

-- ---- over the stations of the routers

module _ (routers : List Router) (stations : List Station) (of : AreOf (net_of routers) stations) (number : ℕ) (c : Copy) where
  joint : (copy : Place → Copy) (near : List Station) → map (λ to. copy (place_of to)) near ≡ map copy (map place_of near)
  joint copy [] = refl
  joint copy (to ∷ near) = ap (λ (cs : List Copy). copy (place_of to) ∷ cs) (joint copy near)

  receivers_are : (s : Sent) → receivers_by (router_at routers c.to.router) stations number c s ≡ receivers routers number c s
  receivers_are s =
      let from : Place = record { router = c.to.router; port = s.port } in
      let copy : Place → Copy = λ to. record { parent = Some number; to = to; bytes = s.bytes } in
      let network = (port_at (router_at routers c.to.router).ports s.port).network in
      joint copy (filter (hears c.to.router s.link) (stations_on stations network))
      ∙ ap (λ (places : List Place). map copy places)
      (heard (net_of routers) stations of from s.link network (ap (λ (ports : List Port). (port_at ports s.port).network.0) (sym (ports_same routers c.to.router))))

  -- those that hear are the children
  pub children_are : children_by (router_at routers c.to.router) stations number c ≡ children routers number c
  children_are = by (forwards routers c)
    where
      by : (sents : List Sent) → flat_map (receivers_by (router_at routers c.to.router) stations number c) sents ≡ flat_map (receivers routers number c) sents
      by [] = refl
      by (s ∷ sents) = ap₂ (λ (xs ys : List Copy). xs ++ ys) (receivers_are s) (by sents)
