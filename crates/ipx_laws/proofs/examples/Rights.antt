-- Two routers on one segment, as of `Waiting`: what the law of right tables asks for holds, and once they were started and what they sent
-- was handed out, both tables have the least ways; where it was lost, after the ticks of a period, and not after one fewer. And an
-- internet of seventeen routers of which the law wouldn't be true.
use Rattle.std.proofs.Common.{◌≡◌, ◌≢◌, refl, sym, ap, get_or, lit<, ℕ, ◌-◌, zero, suc, length, ◌+◌, ◌*◌, ◌<◌, ◌==◌, if◌then◌else◌, List, [], ◌∷◌, ◌++◌, replicate, map, None, Option, option_map, arith}
use Rattle.ipx_wire.specs.Address.{address_bytes, address_at}
use Rattle.ipx_wire.specs.Crossed.{network_bytes, network_at}
use Rattle.ipx_wire.specs.Items.{items}
use Rattle.ipx_wire.specs.Header.{header_bytes, header_at}
use Rattle.ipx_wire.specs.Packet.{packet_of}
use Rattle.ipx_wire.specs.Rip.{entry_bytes, entry_at, rip_of}
use Rattle.ipx_wire.specs.Sap.{sap_of}
use Rattle.ipx_wire.specs.declared.network.Network.{Network}
use Rattle.ipx_wire.specs.declared.node.Node.{Node}
use Rattle.ipx_router.specs.Numbers.{period}
use Rattle.ipx_router.specs.Facts.{routes_held, offers}
use Rattle.ipx_router.specs.History.{Start}
use Rattle.ipx_router.specs.Outgoing.{route_to}
use Rattle.ipx_router.specs.Port.{Port, IsPort, numbers}
use Rattle.ipx_internet.specs.Internet.{Internet, IsInternet, NodesDiffer, ports_of, port_of}
use Rattle.ipx_internet.specs.Queue.{history_of}
use Rattle.ipx_internet.specs.Run.{Step, Run, begun}
use Rattle.ipx_internet.specs.Ticks.{a_tick, ticked}
use Rattle.ipx_internet.proofs.examples.Waiting.{segment, after}
use Rattle.ipx_internet.proofs.examples.Words.{network, port_on}
use Rattle.ipx_internet.proofs.lists.FoundInAList.{nothing}
use Rattle.ipx_laws.specs.Least.{Way, least, least_route, way_of, ticks_right, AreCheap, HasRoom, FifteenSuffice, most_ticks_right}
use Rattle.ipx_laws.specs.Ups.{ups}
use Rattle.ipx_laws.proofs.examples.Leasts.{all, costly, way}

-- ---- two routers

-- hops and ticks of the routes to 10h, 20h and 30h
abbrev pub held : ℕ → List (Option Way)
held router =
    map (λ n. option_map way_of (route_to (offers (routes_held (ports_of segment router) 8 (history_of (after 8).histories router))) n)) (0x10 ∷ 0x20 ∷ 0x30 ∷ [])

abbrev pub should : ℕ → List (Option Way)
should router = map (λ n. least_route segment (ups segment (after 8).histories) router (network n)) (0x10 ∷ 0x20 ∷ 0x30 ∷ [])

pub first_right : held 0 ≡ None ∷ None ∷ way 1 2 ∷ []
unfolding header_bytes address_bytes network_bytes packet_of header_at address_at items network_at entry_bytes entry_at rip_of sap_of
first_right = refl

pub second_right : held 1 ≡ way 1 2 ∷ None ∷ None ∷ []
unfolding header_bytes address_bytes network_bytes packet_of header_at address_at items network_at entry_bytes entry_at rip_of sap_of
second_right = refl

pub as_they_should : should 0 ∷ should 1 ∷ [] ≡ (None ∷ None ∷ way 1 2 ∷ []) ∷ (way 1 2 ∷ None ∷ None ∷ []) ∷ []
unfolding header_bytes address_bytes network_bytes packet_of header_at address_at items network_at entry_bytes entry_at rip_of sap_of
as_they_should = refl

-- by the law each is right about it after the most ticks, whatever it held before
pub one_hop : ticks_right (least_route segment (all segment) 0 (network 0x30)) ≡ most_ticks_right
one_hop = refl

pub cheap : AreCheap segment
cheap = ((omega arith, (omega arith, tt)), ((omega arith, (omega arith, tt)), tt))

-- of three networks each takes a route to one
pub room : HasRoom segment 1
room = record { table = (omega arith, (omega arith, tt)); shares = ((omega arith, (omega arith, tt)), ((omega arith, (omega arith, tt)), tt)) }

-- ports of two routers meet on 20h alone, with different nodes
pub differ : NodesDiffer segment
differ a b at_a at_b off nets = by a.router a.port b.router b.port at_a at_b off (ap (λ (n : Network). n.0) nets)
  where
    there : ℕ → ℕ → Port
    there r p = port_of segment (record { router = r; port = p })

    last : Port → ℕ
    last port = get_or port.node.0 5 0

    other : (r p s q : ℕ) → (last (there r p) ≡ last (there s q) → ⊥) → (there r p).node ≢ (there s q).node
    other r p s q apart e = apart (ap (λ (n : Node). get_or n.0 5 0) e)

    by : (r p s q : ℕ) → p < length (ports_of segment r) → q < length (ports_of segment s) → r ≢ s → (there r p).network.0 ≡ (there s q).network.0
        → (there r p).node ≢ (there s q).node
    by zero p zero q one two off nets = absurd (off refl)
    by (suc zero) p (suc zero) q one two off nets = absurd (off refl)
    by zero zero (suc zero) zero one two off nets = absurd (omega (arith, nets))
    by zero zero (suc zero) (suc zero) one two off nets = absurd (omega (arith, nets))
    by zero (suc zero) (suc zero) zero one two off nets = other 0 1 1 0 (λ (e : 2 ≡ 3). omega (arith, e))
    by zero (suc zero) (suc zero) (suc zero) one two off nets = absurd (omega (arith, nets))
    by (suc zero) zero zero zero one two off nets = absurd (omega (arith, nets))
    by (suc zero) zero zero (suc zero) one two off nets = other 1 0 0 1 (λ (e : 3 ≡ 2). omega (arith, e))
    by (suc zero) (suc zero) zero zero one two off nets = absurd (omega (arith, nets))
    by (suc zero) (suc zero) zero (suc zero) one two off nets = absurd (omega (arith, nets))
    by zero (suc (suc p)) s q one two off nets = absurd (omega (arith, one))
    by (suc zero) (suc (suc p)) s q one two off nets = absurd (omega (arith, one))
    by (suc (suc r)) p s q one two off nets = absurd (omega (arith, one))
    by r p zero (suc (suc q)) one two off nets = absurd (omega (arith, two))
    by r p (suc zero) (suc (suc q)) one two off nets = absurd (omega (arith, two))
    by r p (suc (suc s)) q one two off nets = absurd (omega (arith, two))

pub is_port : (n k : ℕ) → 0 < n → n < 0xFFFFFFFE → k < 256 → IsPort (port_on n k)
is_port n k some ordinary byte = record {
  longest = omega arith;
  cost = omega arith;
  ticks = lit< tt;
  some_network = some;
  ordinary_network = ordinary;
  six_bytes = refl;
  bytes = each;
  node = λ e. let first : 0 ≡ 255 = ap (λ (n : Node). get_or n.0 0 0) e in omega (arith, first);
}
  where
    each : (i : ℕ) → get_or (0 ∷ 0 ∷ 0 ∷ 0 ∷ 0 ∷ k ∷ []) i 0 < 256
    each zero = lit< tt
    each (suc zero) = lit< tt
    each (suc (suc zero)) = lit< tt
    each (suc (suc (suc zero))) = lit< tt
    each (suc (suc (suc (suc zero)))) = lit< tt
    each (suc (suc (suc (suc (suc zero))))) = byte
    each (suc (suc (suc (suc (suc (suc i)))))) = lit< tt

pub made : IsInternet segment
made = record {
  ports = (
    (is_port 0x10 1 (lit< tt) (lit< tt) (lit< tt), (is_port 0x20 2 (lit< tt) (lit< tt) (lit< tt), tt)),
    ((is_port 0x20 3 (lit< tt) (lit< tt) (lit< tt), (is_port 0x30 4 (lit< tt) (lit< tt) (lit< tt), tt)), tt),
  );
  apart = ((((off 0x20 0x10 (λ (e : 0x20 ≡ 0x10). omega (arith, e)), tt), (tt, tt)), (((off 0x30 0x20 (λ (e : 0x30 ≡ 0x20). omega (arith, e)), tt), (tt, tt)), tt)));
}
  where
    off : (m n : ℕ) → (m ≡ n → ⊥) → network m ≢ network n
    off m n apart e = apart (ap (λ (x : Network). x.0) e)

-- ---- the ticks of a period for one hop

-- both were started, and what they sent was lost; then ticks
abbrev since : List (List Step) → Run
since ticks = ticked segment 1 1 (begun ((Start ∷ []) ∷ (Start ∷ []) ∷ [])) ticks

-- hops and ticks of the routes to the other's network
abbrev known_since : List (List Step) → List (Option Way)
known_since ticks =
    map (λ router. option_map way_of (route_to (offers (routes_held (ports_of segment router) 1 (history_of (since ticks).histories router)))
    (if router == 0 then 0x30 else 0x10))) (0 ∷ 1 ∷ [])

abbrev one_too_few : List (List Step)
one_too_few = replicate (period - 1) (a_tick 2 0)

-- one tick fewer is too few, where there is no route at first, so that every route is real
pub not_yet : known_since one_too_few ≡ None ∷ None ∷ []
unfolding header_bytes address_bytes network_bytes packet_of header_at address_at items network_at entry_bytes entry_at rip_of sap_of
not_yet = refl

-- in the next both advertise
pub then_right : known_since (one_too_few ++ a_tick 2 2 ∷ []) ≡ way 1 2 ∷ way 1 2 ∷ []
unfolding header_bytes address_bytes network_bytes packet_of header_at address_at items network_at entry_bytes entry_at rip_of sap_of
then_right = refl

-- ---- seventeen routers

-- router 0 is on network 1 alone; router k, from 1 on, on network k and on network k + 1, with a cost of 1, up to router 16, which is on
-- network 17; router 1 is on network 99h as well, with router 16, whose port there costs 1000
abbrev link : ℕ → List Port
link k =
    if k == 0 then port_on 1 0 ∷ []
    else if k == 1 then port_on 1 1 ∷ port_on 2 2 ∷ port_on 0x99 3 ∷ []
    else if k == 16 then port_on 16 32 ∷ port_on 17 33 ∷ costly 0x99 34 1000 ∷ []
    else port_on k (2 * k) ∷ port_on (k + 1) (2 * k + 1) ∷ []

abbrev chain : Internet
chain = map link (numbers 17)

-- router 1 has a cheap way of 15 hops to network 17 and a dear one of one hop. It has the cheap one, which it doesn't advertise: so router 0,
-- whose best way of at most 15 hops is the dear one, never hears of any
pub hidden : map (λ router. least chain (all chain) router (network 17)) (0 ∷ 1 ∷ 2 ∷ []) ≡ way 2 1002 ∷ way 15 16 ∷ way 14 15 ∷ []
hidden = refl

-- so fifteen hops don't suffice there: the best that router 0 is told of has sixteen hops, and it has a way of two
pub not_enough : FifteenSuffice chain (all chain) (network 17) → ⊥
not_enough suffice = nothing (sym (suffice.each 0 (lit< tt) refl))
