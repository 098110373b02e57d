-- Whether a station has a node: just where a port of the internet has it.
use Rattle.std.proofs.Common.{◌≡◌, ◌↔◌, refl, sym, ap, ◌∙◌, ℕ, zero, suc, ◌<◌, ◌==◌, Bool, true, false, List, [], ◌∷◌, map, filter, length, slice_get, None, Some, inl, inr, arith}
use Rattle.std.specs.List.{AllByRecursion, list_any}
use Rattle.std.proofs.lemmas.Bool.{cases_Bool, both_ways, eq-eqb, eqb-true, or_cases, or_left, or_right}
use Rattle.std.proofs.lemmas.Option.{get_or_from_slice_get}
use Rattle.ipx_wire.specs.declared.node.Node.{Node}
use Rattle.ipx_router.specs.Port.{Port, port_at, same_node}
use Rattle.ipx_internet.specs.Internet.{Internet, Place, port_of, network_of, IsPlace, places}
use Rattle.ipx_internet.specs.Moment.{HasNode, SharesNode}
use Rattle.ipx_internet.specs.Most.{on_network}
use Rattle.ipx_internet.specs.inside.Stations.{stations_on, AreOf}
use Rattle.ipx_internet.specs.declared.stations.Station.{Station}
use Rattle.ipx_internet.proofs.lists.EachElement.{all_passed}
use Rattle.ipx_internet.proofs.lists.HowManyPass.{IsIn}
use Rattle.ipx_internet.proofs.places.EachPortOnce.{places_within}
use Rattle.ipx_internet.proofs.places.FewOnANetwork.{place_in}
use Rattle.ipx_internet.proofs.places.OneReceiverOfANode.{same_number}

-- a port that is found is the one of that number, and where none is found there is none
pub port_found : (ports : List Port) (k : ℕ) (p : Port) → slice_get ports k ≡ Some p → port_at ports k ≡ p
port_found ports k p e = get_or_from_slice_get ports k p (port_at [] 0) e

pub no_port : (ports : List Port) (k : ℕ) → slice_get ports k ≡ None → k < length ports → ⊥
no_port [] k e less = absurd (omega (arith, less))
no_port (p ∷ ports) zero e less = grind arith
no_port (p ∷ ports) (suc k) e less = no_port ports k e (omega (arith, less))

-- a station on the port's network has its node
abbrev pub is_taken : List Station → Port → Bool
is_taken list p = list_any (λ s. same_node s.node p.node) (stations_on list p.network)

module _ {X : Type 0} where
  -- what is found
  record Found (P : X → Type 0) (t : X → Bool) : Type 0 where
    pub one : X
    pub is : P one
    pub passes : t one ≡ true

  found : (P : X → Type 0) (t : X → Bool) (xs : List X) → AllByRecursion P xs → list_any t xs ≡ true → Found P t
  found P t [] all any = absurd (both_ways false refl any)
  found P t (x ∷ xs) all any = elim (or_cases (t x) (list_any t xs) any) [
    | inl e ↦ record { one = x; is = all.0; passes = e }
    | inr later ↦ found P t xs all.1 later
  ]

  -- what is there is found
  finds : (t : X → Bool) (x : X) (xs : List X) → IsIn x xs → t x ≡ true → list_any t xs ≡ true
  finds t x [] there e = absurd there
  finds t x (y ∷ xs) there e = elim there [
    | inl same ↦ or_left (t y) (list_any t xs) (ap t same ∙ e)
    | inr later ↦ or_right (t y) (list_any t xs) (finds t x xs later e)
  ]

  stays_in : (p : X → Bool) (x : X) (xs : List X) → IsIn x xs → p x ≡ true → IsIn x (filter p xs)
  stays_in p x [] there e = there
  stays_in p x (y ∷ xs) there e = elim there [
    | inl same ↦ rw (ap p same ∙ e) (inl same)
    | inr later ↦
        let rest = stays_in p x xs later e in
        elim (cases_Bool (p y)) [
          | inl on ↦ rw on (inr rest)
          | inr off ↦ rw off rest
        ]
  ]

  any_image : {Y : Type 0} (t : Y → Bool) (f : X → Y) (xs : List X) → list_any t (map f xs) ≡ list_any (λ x. t (f x)) xs
  any_image t f [] = refl
  any_image t f (x ∷ xs) = rw (any_image t f xs) refl

module _ (nodes : (a b : Node) → (same_node a b ≡ true ↔ a ≡ b)) (net : Internet) (list : List Station) (of : AreOf net list) where
  -- as of the ports on the network
  seen : (p : Port) → is_taken list p ≡ list_any (λ place. same_node (port_of net place).node p.node) (on_network net p.network)
  seen p = grind (arith, any_image)

  pub taken_has : (p : Port) → is_taken list p ≡ true → HasNode net p
  taken_has p taken =
      let test : Place → Bool = λ place. (network_of net place).0 == p.network.0 in
      let one =
      found (λ place. IsPlace net place × (test place ≡ true)) (λ place. same_node (port_of net place).node p.node) (on_network net p.network)
      (all_passed (IsPlace net) test (places net) (places_within net)) (sym (seen p) ∙ taken) in
      record {
        place = one.one;
        there = one.is.0;
        network = same_number (network_of net one.one) p.network (eqb-true _ _ one.is.1);
        node = (nodes (port_of net one.one).node p.node).0 one.passes;
      }

  pub has_taken : (p : Port) → HasNode net p → is_taken list p ≡ true
  has_taken p has = grind (arith, seen, finds, stays_in, place_in, eq-eqb)

  -- none of some ports is taken
  pub shares_none : (ports : List Port) → ((k : ℕ) → k < length ports → is_taken list (port_at ports k) ≡ false) → SharesNode net ports → ⊥
  shares_none ports none shares = both_ways _ (none shares.0 shares.1) (has_taken (port_at ports shares.0) shares.2)
