-- A listing of a tree, over the routers of an internet and their stations.
use Rattle.std.proofs.lemmas.Grind.{common_steps}
use Rattle.std.proofs.Common.{◌≡◌, refl, sym, ap, ◌∙◌, subst, ℕ, zero, suc, ◌+◌, ◌-◌, ◌<◌, ◌≤◌, List, [], ◌∷◌, ◌++◌, length, map, slice_get, slice_index_or, Some, arith, length-append, rules}
use Rattle.std.specs.List.{AllByRecursion}
use Rattle.std.proofs.lemmas.List.{length-map, get_or-map}
use Rattle.ipx_wire.specs.Piece.{IsBytes}
use Rattle.ipx_router.specs.Numbers.{most_routers}
use Rattle.ipx_router.specs.Port.{Port}
use Rattle.ipx_router.specs.Stands.{State}
use Rattle.ipx_internet.specs.Internet.{Internet, Place, ports_of, IsPlace, IsInternet, NodesDiffer}
use Rattle.ipx_internet.specs.Listed.{Listing, copy_at, waits_next, children_by, GoesOn, IsCut, IsListed}
use Rattle.ipx_internet.specs.inside.Simulated.{net_among}
use Rattle.ipx_internet.specs.inside.Stations.{AreOf}
use Rattle.ipx_internet.specs.Traced.{router_of, routers_of, tree, outcome_of, outcome_at}
use Rattle.ipx_internet.specs.Tree.{Router, Copy, IsRouter, net_of, router_at, children, tree_to, IsTree}
use Rattle.ipx_internet.specs.Weight.{weight, IsBounded}
use Rattle.ipx_internet.specs.declared.fault.TraceFault.{TraceFault}
use Rattle.ipx_internet.specs.declared.stations.Station.{Station}
use Rattle.ipx_internet.proofs.lists.EachElement.{all_at}
use Rattle.ipx_internet.proofs.trees.ListedIsTheTree.{begins as tree_begins, ends as tree_ends, goes_on as tree_goes_on, more_no_longer, children_are}
use Rattle.ipx_internet.proofs.trees.ListingUpToALimit.{cut_more}
use Rattle.ipx_internet.proofs.trees.RootOutweighsItsList as weighed
use Rattle.ipx_internet.proofs.trees.RootOutweighsItsList.{there_at}

-- the ports of routers as they are are their ports
pub nets_same : (states : List State) → net_of (routers_of states) ≡ net_among states
nets_same [] = refl
nets_same (s ∷ states) = ap (λ (net : Internet). s.ports ∷ net) (nets_same states)

-- a port that there is is one of a router that there is
there : (net : Internet) (place : Place) → IsPlace net place → place.router < length net
there net place within = by net place.router within
  where
    by : (net : Internet) (number : ℕ) → place.port < length (ports_of net number) → number < length net
    by [] number within = absurd (omega (arith, within))
    by (ports ∷ net) zero within = omega arith
    by (ports ∷ net) (suc number) within = let deeper = by net number within in omega (arith, deeper)

-- the law that a tree ends
abbrev pub Ends : Type 0
Ends =
    (routers : List Router) (c : Copy) (n : ℕ) → IsInternet (net_of routers) → AllByRecursion IsRouter routers
    → IsBytes c.bytes → most_routers < n → IsTree routers c (tree_to routers n c)

-- the law that to send on what waits next never makes a listing heavier
abbrev pub NeverRises : Type 0
NeverRises =
    (routers : List Router) (root c : Copy) (copies : List Copy) (sent number : ℕ) → IsInternet (net_of routers) → NodesDiffer (net_of routers)
    → AllByRecursion IsRouter routers → IsBounded (net_of routers) root sent copies → slice_get copies sent ≡ Some c
    → IsBounded (net_of routers) root (sent + 1) (copies ++ children routers number c)

module _ (states : List State) (stations : List Station) (root : Copy) where
  abbrev routers : List Router
  routers = routers_of states

  pub is_tree : Ends → IsInternet (net_among states) → AllByRecursion IsRouter routers → IsBytes root.bytes → IsTree routers root (tree routers root)
  unfolding tree
  is_tree law made right bytes = search (rules, nets_same)

  -- the tree has the root
  pub root_there : IsTree routers root (tree routers root) → 1 ≤ length (tree routers root)
  root_there is = grind arith

  -- the root alone is bounded
  pub begins_bounded : (l : Listing) → l.copies ≡ root ∷ [] → l.outcomes ≡ [] → IsBytes root.bytes → IsPlace (net_among states) root.to
      → IsBounded (net_among states) root (length l.outcomes) l.copies
  begins_bounded l copies outcomes bytes place = grind arith

  -- where not even the root may be listed
  pub cut_first : (limit : ℕ) (fault : TraceFault) → IsCut limit 1 fault → IsCut limit (weight (net_among states) root) fault
  cut_first limit fault was =
      cut_more limit 1 (weight (net_among states) root) fault (weighed.at_least_one (net_among states) root) was

  -- what is listed is no more than the root weighs
  pub no_more : (l : Listing) → IsBounded (net_among states) root (length l.outcomes) l.copies → length l.copies ≤ weight (net_among states) root
  no_more l bounded = weighed.few (net_among states) root l.copies (length l.outcomes) bounded

  module _ (of : AreOf (net_among states) stations) (is : IsTree routers root (tree routers root)) where
    pub begins : (l : Listing) → l.copies ≡ root ∷ [] → l.outcomes ≡ [] → IsPlace (net_among states) root.to → IsListed routers root l
    begins l copies outcomes place =
        tree_begins routers root is l copies outcomes (subst (λ (net : Internet). IsPlace net root.to) (sym (nets_same states)) place)

    module _ (l : Listing) (listed : IsListed routers root l) (waits : length l.outcomes < length l.copies) where
      abbrev at : ℕ
      at = (waits_next l).to.router

      place : IsPlace (net_of routers) (waits_next l).to
      place = all_at (λ c. IsPlace (net_of routers) c.to) l.copies (length l.outcomes) (copy_at [] 0) listed.places waits

      pub router_there : at < length states
      router_there = grind (arith, there, place, nets_same, length-map)

      module _ (state : State) (read : state ≡ slice_index_or states at state) where
        router_same : router_at routers at ≡ router_of state
        router_same = get_or-map router_of states at state _ router_there ∙ ap router_of (sym read)

        ports_same : ports_of (net_of routers) at ≡ state.ports
        ports_same = grind (arith, nets_same, get_or-map, router_there)

        pub port_there : (waits_next l).to.port < length state.ports
        port_there = subst (λ (ports : List Port). (waits_next l).to.port < length ports) ports_same place

        -- those that hear are the children
        kids : children_by (router_of state) stations (length l.outcomes) (waits_next l) ≡ children routers (length l.outcomes) (waits_next l)
        kids = grind (arith, router_same, children_are, nets_same)

        pub goes_on : (new : Listing) → GoesOn (router_of state) stations l new → IsListed routers root new
        goes_on new went =
            tree_goes_on routers root is l listed waits new (went.copies ∙ ap (λ (cs : List Copy). l.copies ++ cs) kids)
            (went.outcomes ∙ ap (λ (r : Router). l.outcomes ++ outcome_of r (waits_next l).to.port (waits_next l).bytes ∷ []) (sym router_same))

        -- one more outcome
        pub one_more : (new : Listing) → GoesOn (router_of state) stations l new → length new.outcomes ≡ length l.outcomes + 1
        one_more new went = grind (arith, length-append)

        pub cut : (limit : ℕ) (fault : TraceFault)
            → IsCut limit (length l.copies + length (children_by (router_of state) stations (length l.outcomes) (waits_next l))) fault
            → IsCut limit (length (tree routers root)) fault
        cut limit fault was = search (rules, more_no_longer, kids, cut_more)

        module _ (law : NeverRises) (made : IsInternet (net_among states)) (differ : NodesDiffer (net_among states)) (right : AllByRecursion IsRouter routers)
            (bounded : IsBounded (net_among states) root (length l.outcomes) l.copies) where
          abbrev kids_by : List Copy
          kids_by = children_by (router_of state) stations (length l.outcomes) (waits_next l)

          grown_bounded : IsBounded (net_among states) root (length l.outcomes + 1) (l.copies ++ kids_by)
          grown_bounded =
              let same = sym (nets_same states) in
              subst (λ (cs : List Copy). IsBounded (net_among states) root (length l.outcomes + 1) (l.copies ++ cs)) (sym kids)
              (subst (λ (net : Internet). IsBounded net root (length l.outcomes + 1) (l.copies ++ children routers (length l.outcomes) (waits_next l)))
              (nets_same states)
              (law routers root (waits_next l) l.copies (length l.outcomes) (length l.outcomes)
              (subst (λ (net : Internet). IsInternet net) same made) (subst (λ (net : Internet). NodesDiffer net) same differ) right
              (subst (λ (net : Internet). IsBounded net root (length l.outcomes) l.copies) same bounded)
              (there_at (net_among states) l.copies (length l.outcomes) _ waits)))

          pub stays_bounded : (new : Listing) → GoesOn (router_of state) stations l new → IsBounded (net_among states) root (length new.outcomes) new.copies
          stays_bounded new went = grind (arith, one_more, grown_bounded)

          -- a list that is cut would be no longer than the root weighs
          pub cut_bounded : (limit : ℕ) (fault : TraceFault) → IsCut limit (length l.copies + length kids_by) fault
              → IsCut limit (weight (net_among states) root) fault
          cut_bounded limit fault was =
              let all = weighed.few (net_among states) root (l.copies ++ kids_by) (length l.outcomes + 1) grown_bounded in
              let joined = length-append l.copies kids_by in
              cut_more limit (length l.copies + length kids_by) (weight (net_among states) root) fault (omega (arith, all, joined)) was

    -- where nothing waits
    pub ends : (l : Listing) → IsListed routers root l → length l.copies ≤ length l.outcomes
        → (l.copies ≡ tree routers root) × (l.outcomes ≡ map (outcome_at routers) (tree routers root))
    ends l listed none = tree_ends routers root is l listed none

-- one more of so many is left
pub fewer_left : (limit before after : ℕ) → after ≡ before + 1 → before < limit → limit - after < limit - before
fewer_left limit before after one below = omega (arith, one, below)

-- whether a port is there, by its router
pub has_port : (states : List State) (router port : ℕ) (state : State) → router < length states → state ≡ slice_index_or states router state
    → ports_of (net_among states) router ≡ state.ports
has_port states router port state below read = get_or-map (λ (s : State). s.ports) states router state [] below ∙ ap (λ (s : State). s.ports) (sym read)

pub has_none : (states : List State) (router port : ℕ) → length states ≤ router → IsPlace (net_among states) (record { router = router; port = port }) → ⊥
has_none states router port past place = grind (arith, common_steps, there, place, length-map)

pub some_state : (states : List State) (router port : ℕ) → IsPlace (net_among states) (record { router = router; port = port }) → 0 < length states
some_state states router port place = grind (arith, common_steps, there, place, length-map)
