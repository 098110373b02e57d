-- The two routers of `Waiting`, started 59 seconds ago, on wires. In the beat that follows each broadcasts, and both broadcasts land, the later
-- one first. So in a window of one beat each router hears of the network that the other one advertises, and then both tables are right. Lost,
-- they aren't.
use Rattle.std.proofs.Common.{◌≡◌, ◌≢◌, refl, sym, ap, subst, ℕ, zero, suc, ◌<◌, ◌≤◌, List, [], ◌∷◌, ◌++◌, length, map, replicate, Option, None, option_map, inl, inr, arith, length-append}
use Rattle.ipx_wire.specs.Address.{address_bytes, address_at}
use Rattle.ipx_wire.specs.Crossed.{network_bytes, network_at}
use Rattle.ipx_wire.specs.Header.{header_bytes, header_at}
use Rattle.ipx_wire.specs.Items.{items}
use Rattle.ipx_wire.specs.Packet.{packet_of}
use Rattle.ipx_wire.specs.Rip.{entry_bytes, entry_at, rip_of}
use Rattle.ipx_wire.specs.Sap.{sap_of}
use Rattle.ipx_wire.specs.declared.network.Network.{Network}
use Rattle.ipx_table.specs.Alive.{lifetime}
use Rattle.ipx_router.specs.History.{History, Start, Second}
use Rattle.ipx_router.proofs.port_values.PortOfEachNumber.{one_up}
use Rattle.ipx_internet.specs.Internet.{Internet, Place, ports_of, port_of, network_of}
use Rattle.ipx_internet.specs.Ticks.{seconds_of}
use Rattle.ipx_internet.proofs.examples.Waiting.{segment}
use Rattle.ipx_internet.proofs.examples.Words.{network, at}
use Rattle.ipx_laws.specs.InTime.{Advertises, IsHeardFrom, AreHeardInTime, seconds_in, AreQuick}
use Rattle.ipx_laws.specs.Meanwhile.{TellsNoRoute, LeavesPorts, SaysOnly}
use Rattle.ipx_laws.specs.Least.{Way, least_route, way_of}
use Rattle.ipx_laws.specs.Tables.{route_of}
use Rattle.ipx_laws.specs.Ups.{ups}
use Rattle.ipx_laws.specs.Wires.{WireStep, Occurs, Lands, as_step, still, beats_of, Along, EachBeat, IsBeat, EachWireStep, InBeats}
use Rattle.ipx_laws.proofs.examples.Ticks.{of_two}
use Rattle.ipx_laws.proofs.tables.LeastWays.{ups_within}

abbrev history : History
history = Start ∷ replicate 59 Second

abbrev histories : List History
histories = history ∷ history ∷ []

abbrev beat : List WireStep
beat = Occurs 0 Second ∷ Occurs 1 Second ∷ Lands 1 ∷ Lands 0 ∷ []

abbrev up : ℕ → List ℕ
up = ups segment histories

pub is_beat : IsBeat segment beat
is_beat = record { happens = ((omega arith, tt, tt), ((omega arith, tt, tt), (tt, (tt, tt)))); each = of_two (λ router. 1 ≤ seconds_of router (map as_step beat)) (omega arith) (omega arith) }

pub leaves : EachWireStep LeavesPorts (beat ∷ [])
leaves = ((tt, (tt, (tt, (tt, tt)))), tt)

pub says : EachWireStep (SaysOnly TellsNoRoute) (beat ∷ [])
says = ((tt, (tt, (tt, (tt, tt)))), tt)

-- ---- who is heard

-- one beat has one window of one beat
pub one_window : {X : Type 0} (x : X) (before within after : List X) → x ∷ [] ≡ before ++ within ++ after → length within ≡ 1 → (before ≡ []) × (within ≡ x ∷ [])
one_window x [] [] after parts wide = absurd (omega (arith, wide))
one_window x [] (y ∷ []) after parts wide =
    (refl, ap (λ (xs : List _). elim xs [ [] ↦ y ∷ [] | ◌∷◌ z zs ↦ z ∷ [] ]) (sym parts))
one_window x [] (y ∷ z ∷ within) after parts wide = absurd (omega (arith, wide))
one_window x (b ∷ before) within after parts wide =
    let sum = ap length parts in
    let one = length-append ((b ∷ before) ++ within) after in
    let two = length-append (b ∷ before) within in
    absurd (omega (arith, sum, one, two, wide))

-- nor is one beat long, where each clock has fewer seconds in it than an offer lives
pub one_is_quick : (net : Internet) (steps : List WireStep) → ((router : ℕ) → router < length net → seconds_in router (steps ∷ []) < lifetime) → AreQuick net 1 (steps ∷ [])
one_is_quick net steps few router before [] after there parts short = omega arith
one_is_quick net steps few router before (w ∷ []) after there parts short =
    let (none, whole) = one_window steps before (w ∷ []) after parts refl in
    subst (λ (ws : List (List WireStep)). seconds_in router ws < lifetime) (sym whole) (few router there)
one_is_quick net steps few router before (w ∷ v ∷ within) after there parts short =
    let sum = ap length parts in
    let one = length-append (before ++ w ∷ v ∷ within) after in
    let two = length-append before (w ∷ v ∷ within) in
    absurd (omega (arith, sum, one, two))

pub quick : AreQuick segment 1 (beat ∷ [])
quick = one_is_quick segment beat (of_two (λ router. seconds_in router (beat ∷ []) < lifetime) (omega arith) (omega arith))

abbrev Heard : Place → Place → Network → List (List WireStep) → List (List WireStep) → Type 0
Heard from to n before within =
    EachBeat segment 8 8 0 (Along segment 8 8 0 (Advertises segment 8 8 0 from n)) (beats_of segment 8 8 0 (still histories) before) within
    → InBeats segment 8 8 0 (IsHeardFrom segment 8 8 0 to (port_of segment from).node n) (beats_of segment 8 8 0 (still histories) before) within

by_ports : (r p s q : ℕ) (n : Network) → p < length (ports_of segment r) → q < length (ports_of segment s) → r ≢ s
    → network_of segment (at r p) ≡ network_of segment (at s q) → Heard (at r p) (at s q) n [] (beat ∷ [])
unfolding header_bytes address_bytes network_bytes packet_of header_at address_at items network_at entry_bytes entry_at rip_of sap_of
by_ports zero (suc zero) (suc zero) zero n here there other same =
    λ advertised. inr (inr (inr (inl (_, refl, refl, omega arith, _, refl, (refl, refl, advertised.0.0)))))
by_ports (suc zero) zero zero (suc zero) n here there other same =
    λ advertised. inr (inr (inl (_, refl, refl, omega arith, _, refl, (refl, refl, advertised.0.0))))
by_ports zero zero (suc zero) zero n here there other same = absurd (let e : 0x10 ≡ 0x20 = ap (λ (m : Network). m.0) same in omega (arith, e))
by_ports zero zero (suc zero) (suc zero) n here there other same = absurd (let e : 0x10 ≡ 0x30 = ap (λ (m : Network). m.0) same in omega (arith, e))
by_ports zero (suc zero) (suc zero) (suc zero) n here there other same = absurd (let e : 0x20 ≡ 0x30 = ap (λ (m : Network). m.0) same in omega (arith, e))
by_ports (suc zero) zero zero zero n here there other same = absurd (let e : 0x20 ≡ 0x10 = ap (λ (m : Network). m.0) same in omega (arith, e))
by_ports (suc zero) (suc zero) zero zero n here there other same = absurd (let e : 0x30 ≡ 0x10 = ap (λ (m : Network). m.0) same in omega (arith, e))
by_ports (suc zero) (suc zero) zero (suc zero) n here there other same = absurd (let e : 0x30 ≡ 0x20 = ap (λ (m : Network). m.0) same in omega (arith, e))
by_ports zero p zero q n here there other same = absurd (other refl)
by_ports (suc zero) p (suc zero) q n here there other same = absurd (other refl)
by_ports (suc (suc r)) p s q n here there other same = absurd (omega (arith, here))
by_ports zero p (suc (suc s)) q n here there other same = absurd (omega (arith, there))
by_ports (suc zero) p (suc (suc s)) q n here there other same = absurd (omega (arith, there))
by_ports zero (suc (suc p)) (suc zero) q n here there other same = absurd (omega (arith, here))
by_ports zero p (suc zero) (suc (suc q)) n here there other same = absurd (omega (arith, there))
by_ports (suc zero) (suc (suc p)) zero q n here there other same = absurd (omega (arith, here))
by_ports (suc zero) p zero (suc (suc q)) n here there other same = absurd (omega (arith, there))

pub in_time : AreHeardInTime segment 8 8 0 1 up (still histories) (beat ∷ [])
in_time from to n before within after on_from on_to other same parts wide =
    let (none, whole) = one_window beat before within after parts wide in
    subst (λ (b : List (List WireStep)). Heard from to n b within) (sym none) (subst (λ (w : List (List WireStep)). Heard from to n [] w) (sym whole)
    (by_ports from.router from.port to.router to.port n
    (one_up (λ j. j < length (ports_of segment from.router)) (up from.router) from.port (ups_within segment histories from.router) on_from)
    (one_up (λ j. j < length (ports_of segment to.router)) (up to.router) to.port (ups_within segment histories to.router) on_to) other same))

-- ---- what they have

abbrev have : List (List WireStep) → List (List (Option Way))
have beats =
    map (λ router. map (λ n. option_map way_of (route_of segment 8 (beats_of segment 8 8 0 (still histories) beats).histories router (network n))) (0x10 ∷ 0x20 ∷ 0x30 ∷ []))
    (0 ∷ 1 ∷ [])

abbrev should : List (List (Option Way))
should = map (λ router. map (λ n. least_route segment up router (network n)) (0x10 ∷ 0x20 ∷ 0x30 ∷ [])) (0 ∷ 1 ∷ [])

pub right_then : have (beat ∷ []) ≡ should
unfolding header_bytes address_bytes network_bytes packet_of header_at address_at items network_at entry_bytes entry_at rip_of sap_of
right_then = refl

pub all_lost : have ((Occurs 0 Second ∷ Occurs 1 Second ∷ []) ∷ []) ≡ (None ∷ None ∷ None ∷ []) ∷ (None ∷ None ∷ None ∷ []) ∷ []
unfolding header_bytes address_bytes network_bytes packet_of header_at address_at items network_at entry_bytes entry_at rip_of sap_of
all_lost = refl
