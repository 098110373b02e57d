-- Links that are the same.
use Rattle.std.proofs.Common.{◌≡◌, ◌⊎◌, ◌∙◌, refl, sym, ap, ap₂, arith, ℕ, ◌<◌, ◌≤◌, Bool, true, false, ◌==◌, ◌&&◌, ◌||◌, not, if◌then◌else◌, eqb-true, eq-eqb, inl, inr, nat_eq, List, [], ◌∷◌, length, slice_get, Option, Some, None}
use Rattle.std.specs.Bool.{beq}
use Rattle.std.specs.Cmp.Lexicographic.{pointwise}
use Rattle.ipx_wire.specs.declared.node.Node.{Node}
use Rattle.std.proofs.lemmas.Bool.{cases_Bool, false≢true, and_parts, and_from, or_left, or_right}
use Rattle.std.proofs.lemmas.Option.{slice_get-get_or, none-some}
use Rattle.ipx_plan.specs.declared.carrier.Carrier.{Carrier}
use Rattle.ipx_plan.specs.declared.carrier.Carrier.TheVariants.{Tunnel, Card, Shared, Own}
use Rattle.ipx_plan.specs.declared.link.Link.{Link}
use Rattle.ipx_plan.specs.Carriers.{same_carrier, is_tunnel, tunnel_port}
use Rattle.ipx_plan.specs.Likeness.{same_link, is_same, is_at_same_port, same, at_port, apart, distance, between, distance_at}
use Rattle.ipx_plan.specs.Tunnels.{same_node, is_found}
use Rattle.ipx_plan.proofs.Blank.{blank}

-- ---- elements

pub cases_get : {X : Type 0} (xs : List X) (k : ℕ) → (slice_get xs k ≡ None) ⊎ ((x : X) × (slice_get xs k ≡ Some x))
cases_get xs k = elim (slice_get xs k) as (λ o. (o ≡ None) ⊎ ((x : _) × (o ≡ Some x))) [ None ↦ inl refl | Some x ↦ inr (x, refl) ]

pub get_within : (xs : List Link) (k : ℕ) → k < length xs → (x : Link) × (slice_get xs k ≡ Some x)
get_within xs k within = elim (cases_get xs k) [
  | inl none ↦ absurd (none-some _ (sym none ∙ slice_get-get_or xs k blank within))
  | inr some ↦ some
]

-- ---- carriers

pub carrier_is : (a b : Carrier) → same_carrier a b ≡ true → a ≡ b
carrier_is (Tunnel port address) (Tunnel other elsewhere) is =
    let parts = and_parts (port == other) (address == elsewhere) is in
    ap₂ Tunnel (eqb-true port other parts.0) (eqb-true address elsewhere parts.1)
carrier_is (Card a) (Card b) is = ap Card (eqb-true a b is)
carrier_is (Shared a) (Shared b) is = ap Shared (eqb-true a b is)
carrier_is (Own a) (Own b) is = ap Own (eqb-true a b is)
carrier_is a b is = absurd (false≢true is)

pub carrier_itself : (a : Carrier) → same_carrier a a ≡ true
carrier_itself (Tunnel port address) = and_from (port == port) (address == address) (eq-eqb port port refl) (eq-eqb address address refl)
carrier_itself (Card a) = eq-eqb a a refl
carrier_itself (Shared a) = eq-eqb a a refl
carrier_itself (Own a) = eq-eqb a a refl

pub carrier_same : (a b : Carrier) → a ≡ b → same_carrier a b ≡ true
carrier_same a b is = ap (λ (c : Carrier). same_carrier c b) is ∙ carrier_itself b

-- ---- links

pub beq_itself : (b : Bool) → beq b b ≡ true
beq_itself true = refl
beq_itself false = refl

list_itself : (xs : List ℕ) → pointwise nat_eq xs xs ≡ true
list_itself [] = refl
list_itself (x ∷ xs) = and_from (nat_eq x x) (pointwise nat_eq xs xs) (eq-eqb x x refl) (list_itself xs)

pub node_itself : (o : Option Node) → same_node o o ≡ true
node_itself None = refl
node_itself (Some n) = list_itself n.0

pub same_itself : (a : Link) → same_link a a ≡ true
same_itself a = and_from (same_carrier a.carrier a.carrier) (a.frames == a.frames) (carrier_itself a.carrier) (eq-eqb a.frames a.frames refl)

pub distance_itself : (a : Link) → distance a a ≡ same
distance_itself a =
    let is : is_same a a ≡ true =
    and_from (a.network.0 == a.network.0) (not (a.is_of_several || a.is_of_several) || same_link a a) (eq-eqb a.network.0 a.network.0 refl)
    (or_right (not (a.is_of_several || a.is_of_several)) (same_link a a) (same_itself a)) in
    ap (λ (b : Bool). if b then same else if is_at_same_port a a then at_port else apart) is

pub distance_most : (a b : Link) → distance a b ≤ apart
distance_most a b = grind arith

most : (a b : Option Link) → between a b ≤ apart
most (Some a) (Some b) = distance_most a b
most a b = omega arith

pub distance_at_most : (old new : List Link) (j k : ℕ) → distance_at old new j k ≤ apart
distance_at_most old new j k = most (slice_get old j) (slice_get new k)

pub distance_network : (a b : Link) → distance a b < apart → a.network.0 ≡ b.network.0
distance_network a b near = elim (cases_Bool (is_same a b)) [
  | inl is ↦ eqb-true a.network.0 b.network.0 (and_parts (a.network.0 == b.network.0) (not (a.is_of_several || b.is_of_several) || same_link a b) is).0
  | inr other ↦ elim (cases_Bool (is_at_same_port a b)) [
    | inl is ↦
        let parts = and_parts ((a.network.0 == b.network.0) && not (tunnel_port a.carrier == 0)) (tunnel_port a.carrier == tunnel_port b.carrier) is in
        eqb-true a.network.0 b.network.0 (and_parts (a.network.0 == b.network.0) (not (tunnel_port a.carrier == 0)) parts.0).0
    | inr far ↦
        let away : distance a b ≡ apart =
        ap₂ (λ (x y : Bool). if x then same else if y then at_port else apart) other far in
        absurd (omega (arith, near, away))
  ]
]

-- ---- tunnels

-- only a tunnel has a port
port_tunnel : (c : Carrier) → not (tunnel_port c == 0) ≡ true → is_tunnel c ≡ true
port_tunnel (Tunnel port address) is = refl
port_tunnel (Card card) is = absurd (false≢true is)
port_tunnel (Shared number) is = absurd (false≢true is)
port_tunnel (Own number) is = absurd (false≢true is)

pub at_port_found : (a b : Link) → is_at_same_port a b ≡ true → is_found a b ≡ true
at_port_found a b is =
    let parts = and_parts ((a.network.0 == b.network.0) && not (tunnel_port a.carrier == 0)) (tunnel_port a.carrier == tunnel_port b.carrier) is in
    let port : not (tunnel_port a.carrier == 0) ≡ true = (and_parts (a.network.0 == b.network.0) (not (tunnel_port a.carrier == 0)) parts.0).1 in
    let equal = eqb-true (tunnel_port a.carrier) (tunnel_port b.carrier) parts.1 in
    let also : not (tunnel_port b.carrier == 0) ≡ true = ap (λ (p : ℕ). not (p == 0)) (sym equal) ∙ port in
    let both = and_from (is_tunnel a.carrier) (is_tunnel b.carrier) (port_tunnel a.carrier port) (port_tunnel b.carrier also) in
    and_from (is_tunnel a.carrier && is_tunnel b.carrier && (tunnel_port a.carrier == tunnel_port b.carrier)) (not (tunnel_port a.carrier == 0) || same_link a b)
    (and_from (is_tunnel a.carrier && is_tunnel b.carrier) (tunnel_port a.carrier == tunnel_port b.carrier) both parts.1)
    (or_left (not (tunnel_port a.carrier == 0)) (same_link a b) port)

pub found_itself : (a : Link) → is_tunnel a.carrier ≡ true → is_found a a ≡ true
found_itself a is =
    let equal : (tunnel_port a.carrier == tunnel_port a.carrier) ≡ true = eq-eqb (tunnel_port a.carrier) (tunnel_port a.carrier) refl in
    and_from (is_tunnel a.carrier && is_tunnel a.carrier && (tunnel_port a.carrier == tunnel_port a.carrier)) (not (tunnel_port a.carrier == 0) || same_link a a)
    (and_from (is_tunnel a.carrier && is_tunnel a.carrier) (tunnel_port a.carrier == tunnel_port a.carrier) (and_from (is_tunnel a.carrier) (is_tunnel a.carrier) is is) equal)
    (or_right (not (tunnel_port a.carrier == 0)) (same_link a a) (same_itself a))
