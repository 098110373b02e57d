-- When ports of two routers have one network and one node.
use Rattle.std.proofs.lemmas.Grind.{common_steps}
use Rattle.std.proofs.Common.{◌≡◌, ℕ, suc, ◌<◌, ◌==◌, nat_eq, Bool, true, false, List, [], ◌∷◌, ◌++◌, length, refl, sym, ap, inl, inr, arith, get_or, rules}
use Rattle.std.proofs.lemmas.Bool.{true≢false, and_parts, or_cases, or_from, or_left, or_parts, or_right, eq-eqb, eqb-true}
use Rattle.std.proofs.lemmas.List.Folds.{list_any_at}
use Rattle.std.specs.Cmp.Lexicographic.{pointwise, same_text}
use Rattle.std.specs.List.{list_any}
use Rattle.ipx_router.specs.Port.{Port, port_at, same_node}
use Rattle.ipx_internet.specs.Internet.{Internet, ports_of}
use Rattle.ipx_internet.specs.Moment.{SharesNode}
use Rattle.ipx_cmd.specs.InternetMachine.{is_same, nodes_meet, share_node}

-- ---- lists

any_joined : {X : Type 0} (f : X → Bool) (xs ys : List X) → list_any f xs ≡ false → list_any f ys ≡ false → list_any f (xs ++ ys) ≡ false
any_joined f xs ys none others = grind (arith, common_steps, or_parts, or_from)

any_behind : {X : Type 0} (f : X → Bool) (xs ys : List X) (y : X) → f y ≡ true → list_any f (xs ++ y ∷ ys) ≡ true
any_behind f xs ys y fits = grind (arith, common_steps, or_left, or_right)

-- a place where a test holds
record Found {X : Type 0} (f : X → Bool) (xs : List X) (other : X) : Type 0 where
  at : ℕ
  below : at < length xs
  holds : f (get_or xs at other) ≡ true

found : {X : Type 0} (f : X → Bool) (xs : List X) (other : X) → list_any f xs ≡ true → Found f xs other
found f [] other any = absurd (true≢false (sym any))
found f (x ∷ xs) other any = elim (or_cases (f x) (list_any f xs) any) [
  | inl here ↦ record { at = 0; below = omega arith; holds = here }
  | inr later ↦
      let rest = found f xs other later in
      record { at = suc rest.at; below = omega (arith, rest.below); holds = rest.holds }
]

-- ---- ports

same_bytes : (bytes : List ℕ) → pointwise nat_eq bytes bytes ≡ true
same_bytes bytes = search (rules, eq-eqb)

same_if : (p q : Port) → p.network ≡ q.network → p.node ≡ q.node → is_same p q ≡ true
same_if p q networks nodes = grind (arith, eq-eqb, same_bytes)

-- ---- a router and those before it

-- it shares a node with one of them
abbrev pub shares_any : Internet → List Port → Bool
shares_any net ports = list_any (λ others. share_node others ports) net

pub meet_none : (net : Internet) (ports : List Port) → nodes_meet net ≡ false → shares_any net ports ≡ false → nodes_meet (net ++ ports ∷ []) ≡ false
meet_none [] ports apart none = refl
meet_none (first ∷ net) ports apart none =
    let parts = or_parts (list_any (share_node first) net) (nodes_meet net) apart in
    let others = or_parts (share_node first ports) (shares_any net ports) none in
    or_from (list_any (share_node first) (net ++ ports ∷ [])) (nodes_meet (net ++ ports ∷ []))
    (any_joined (share_node first) net (ports ∷ []) parts.0 (or_from (share_node first ports) false others.0 refl))
    (meet_none net ports parts.1 others.1)

pub meet_one : (net rest : Internet) (ports : List Port) → shares_any net ports ≡ true → nodes_meet (net ++ ports ∷ rest) ≡ true
meet_one [] rest ports shares = absurd (true≢false (sym shares))
meet_one (first ∷ net) rest ports shares = elim (or_cases (share_node first ports) (shares_any net ports) shares) [
  | inl here ↦ or_left (list_any (share_node first) (net ++ ports ∷ rest)) (nodes_meet (net ++ ports ∷ rest)) (any_behind (share_node first) net rest ports here)
  | inr later ↦ or_right (list_any (share_node first) (net ++ ports ∷ rest)) (nodes_meet (net ++ ports ∷ rest)) (meet_one net rest ports later)
]

router_below : (net : Internet) (router port : ℕ) → port < length (ports_of net router) → router < length net
router_below net router port there = grind (arith, common_steps)

pub shares_true : (net : Internet) (ports : List Port) → SharesNode net ports → shares_any net ports ≡ true
shares_true net ports given = grind (arith, same_if, list_any_at, router_below)

shares_node : (net : Internet) (ports : List Port) → shares_any net ports ≡ true → SharesNode net ports
shares_node net ports shares =
    let router = found (λ (others : List Port). share_node others ports) net [] shares in
    let port = found (λ (p : Port). list_any (is_same p) ports) (ports_of net router.at) (port_at [] 0) router.holds in
    let number = found (is_same (port_at (ports_of net router.at) port.at)) ports (port_at [] 0) port.holds in
    let p = port_at (ports_of net router.at) port.at in
    let q = port_at ports number.at in
    let both = and_parts (p.network.0 == q.network.0) (same_node p.node q.node) number.holds in (
      number.at,
      number.below,
      record {
        place = record { router = router.at; port = port.at };
        there = port.below;
        network = ap (λ (n : ℕ). record { 0 = n }) (eqb-true p.network.0 q.network.0 both.0);
        node = ap (λ (bytes : List ℕ). record { 0 = bytes }) (same_text p.node.0 q.node.0 (sym both.1));
      },
    )

pub shares_false : (net : Internet) (ports : List Port) → (SharesNode net ports → ⊥) → shares_any net ports ≡ false
shares_false net ports apart = grind (arith, shares_node)
