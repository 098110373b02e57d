-- When values make a port, and ports a router.
use Rattle.std.proofs.Common.{◌≡◌, ◌≢◌, ℕ, ◌<◌, ◌≤◌, ◌==◌, ◌||◌, nat_le, nat_lt, Bool, true, false, if◌then◌else◌, List, [], ◌∷◌, length, refl, ap, inl, inr, arith, Result, Ok, Err, rules}
use Rattle.std.proofs.lemmas.Bool.{cases_Bool, lt-ltb, le-ltb, le-leb, eq-eqb, ne_eqb, or_from, or_parts, eqb-false}
use Rattle.std.specs.List.{AllByRecursion, list_any}
use Rattle.ipx_router.specs.Numbers.{default_route, least_longest, whole_share}
use Rattle.ipx_router.specs.Port.{Port, IsPort, IsNoPort, AreApart, broadcast, same_node}
use Rattle.ipx_router.specs.RouterOf.{IsNoRouter}
use Rattle.ipx_router.specs.declared.port.PortFault.{PortFault}
use Rattle.ipx_router.specs.declared.port.PortFault.TheVariants.{Longest, Cost, Network as BadNetwork, Node as BadNode}
use Rattle.ipx_router.specs.declared.ports_fault.PortsFault.{PortsFault}
use Rattle.ipx_wire.specs.declared.node.Node.{Node}
use Rattle.ipx_cmd.specs.Making.{is_reserved, named_port, meet, named_router, worded}
use Rattle.ipx_cmd.specs.PortWord.{port_fault, ports_fault}
use Rattle.ipx_cmd.specs.declared.lines.fault.LineFault.{LineFault}

-- ---- tests one after the other

passed : {X : Type 0} (b : Bool) (p q r : X) → b ≡ false → q ≡ r → (if b then p else q) ≡ r
passed b p q r e more = rw e more

failed : {X : Type 0} (b : Bool) (p q : X) → b ≡ true → (if b then p else q) ≡ p
failed b p q e = rw e refl

-- ---- ports

not_reserved : (network : ℕ) → 0 < network → network < default_route → is_reserved network ≡ false
not_reserved network some ordinary = grind arith

not_all : (node : Node) → node ≢ broadcast → same_node node broadcast ≡ false
not_all node other = search (rules)

-- the values make a port
pub port_ok : (values : Port) → least_longest ≤ values.longest → 0 < values.cost → 0 < values.network.0 → values.network.0 < default_route → values.node ≢ broadcast
    → named_port values ≡ Ok values
port_ok values long cost some ordinary other = grind (arith, passed, le-ltb, ne_eqb, not_reserved, not_all)

abbrev made_or : Port → Result Port LineFault → Port
made_or other (Ok made) = made
made_or other (Err fault) = other

pub port_is : (values made : Port) → Ok made ≡ named_port values → made ≡ values
port_is values made e = grind arith

-- and here they don't
reserved : (network : ℕ) → (network == 0) ≡ true → is_reserved network ≡ true
reserved network e = rw e refl

or_second : (a b : Bool) → b ≡ true → (a || b) ≡ true
or_second a b e = grind arith

pub port_bad : (values : Port) (fault : PortFault) → IsNoPort values.network values.node values.cost values.longest fault → named_port values ≡ Err (port_fault fault)
port_bad values Longest short = ap (worded port_fault) (failed (nat_lt values.longest least_longest) _ _ (lt-ltb values.longest least_longest short))
port_bad values Cost (long, none) =
    ap (worded port_fault) (
    passed (nat_lt values.longest least_longest) _ _ (Err Cost) (le-ltb values.longest least_longest long)
    (failed (values.cost == 0) _ _ (eq-eqb values.cost 0 none))
    )
port_bad values BadNetwork (long, cost, named) =
    ap (worded port_fault) (
    passed (nat_lt values.longest least_longest) _ _ (Err BadNetwork) (le-ltb values.longest least_longest long)
    (passed (values.cost == 0) _ _ (Err BadNetwork) (ne_eqb values.cost 0 (λ e. omega (arith, e, cost)))
    (failed (is_reserved values.network.0) _ _ (elim named [
      | inl none ↦ reserved values.network.0 (eq-eqb values.network.0 0 none)
      | inr beyond ↦ or_second (values.network.0 == 0) (nat_le default_route values.network.0) (le-leb default_route values.network.0 beyond)
    ])))
    )
port_bad values BadNode (long, cost, some, ordinary, all) =
    ap (worded port_fault) (
    passed (nat_lt values.longest least_longest) _ _ (Err BadNode) (le-ltb values.longest least_longest long)
    (passed (values.cost == 0) _ _ (Err BadNode) (ne_eqb values.cost 0 (λ e. omega (arith, e, cost)))
    (passed (is_reserved values.network.0) _ _ (Err BadNode) (not_reserved values.network.0 some ordinary)
    (failed (same_node values.node broadcast) _ _ (ap (λ n. same_node n broadcast) all))))
    )

-- ---- a router

any_apart : (p : Port) (ports : List Port) → AllByRecursion (λ q. q.network ≢ p.network) ports → list_any (λ q. q.network.0 == p.network.0) ports ≡ false
any_apart p [] others = refl
any_apart p (q ∷ ports) others = grind (arith, any_apart p ports others.1)

apart_any : (p : Port) (ports : List Port) → list_any (λ q. q.network.0 == p.network.0) ports ≡ false → AllByRecursion (λ q. q.network ≢ p.network) ports
apart_any p [] none = tt
apart_any p (q ∷ ports) none =
    let parts = or_parts (q.network.0 == p.network.0) (list_any (λ r. r.network.0 == p.network.0) ports) none in
    (λ e. eqb-false q.network.0 p.network.0 parts.0 (ap (λ n. n.0) e), apart_any p ports parts.1)

apart_meet : (ports : List Port) → AreApart ports → meet ports ≡ false
apart_meet [] apart = refl
apart_meet (p ∷ ports) apart = or_from (list_any (λ q. q.network.0 == p.network.0) ports) (meet ports) (any_apart p ports apart.0) (apart_meet ports apart.1)

meet_apart : (ports : List Port) → meet ports ≡ false → AreApart ports
meet_apart [] none = tt
meet_apart (p ∷ ports) none =
    let parts = or_parts (list_any (λ q. q.network.0 == p.network.0) ports) (meet ports) none in
    (apart_any p ports parts.0, meet_apart ports parts.1)

not_apart_meet : (ports : List Port) → (AreApart ports → ⊥) → meet ports ≡ true
not_apart_meet ports together = elim (cases_Bool (meet ports)) [ inl same ↦ same | inr none ↦ absurd (together (meet_apart ports none)) ]

pub router_ok : (ports : List Port) → 1 ≤ length ports → length ports ≤ 8 → AreApart ports → named_router ports ≡ Ok ports
router_ok ports some few apart = grind (arith, passed, ne_eqb, le-ltb, apart_meet)

pub router_bad : (ports : List Port) (fault : PortsFault) → IsNoRouter 8 ports fault → named_router ports ≡ Err (ports_fault fault)
router_bad ports fault none = grind (arith, passed, ne_eqb, failed, lt-ltb, le-ltb, not_apart_meet)

-- what was made of the values with whole shares has the shares that are named
pub port_answer : (values made shared : Port)
    → made ≡ record { network = values.network; node = values.node; cost = values.cost; longest = values.longest; route_share = whole_share; service_share = whole_share }
    → IsPort made → shared ≡ record made { route_share = values.route_share; service_share = values.service_share } → Ok shared ≡ named_port values
port_answer values made shared e is shares = grind (arith, port_ok)
