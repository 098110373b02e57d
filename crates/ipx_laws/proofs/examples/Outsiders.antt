-- A router with ports on 10h and 20h, started on wires, and a server on 10h that advertises its internal network, 77h: drawn into the internet, it
-- is a second router, with ports on 10h and 77h, that doesn't run. In the beat that follows it says from its node that 77h is one hop away, and two
-- ticks, as its ports cost one each. So in a window of one beat the outsider is heard, and then the router is right about 77h.
use Rattle.std.proofs.Common.{◌≡◌, ◌≢◌, refl, sym, ap, ◌∙◌, subst, get_or, ℕ, zero, suc, ◌+◌, ◌<◌, ◌≤◌, true, List, [], ◌∷◌, length, map, Option, option_map, None, Some, inl, inr, arith, true≢false, lit<}
use Rattle.std.specs.List.{AllByRecursion}
use Rattle.ipx_wire.specs.Address.{address_bytes, address_at}
use Rattle.ipx_wire.specs.Crossed.{network_bytes, network_at}
use Rattle.ipx_wire.specs.Header.{header_bytes, header_at}
use Rattle.ipx_wire.specs.Items.{items}
use Rattle.ipx_wire.specs.Packet.{Parts, packet_of}
use Rattle.ipx_wire.specs.Piece.{IsBytes}
use Rattle.ipx_wire.specs.Rip.{entry_bytes, entry_at, rip_of}
use Rattle.ipx_wire.specs.Sap.{sap_of}
use Rattle.ipx_wire.specs.Write.{rip_packet_parts}
use Rattle.ipx_wire.specs.declared.network.Network.{Network}
use Rattle.ipx_wire.specs.declared.node.Node.{Node}
use Rattle.ipx_wire.specs.declared.rip.Operation.TheVariants.{Response}
use Rattle.ipx_wire.specs.declared.rip.RipEntry.{RipEntry}
use Rattle.ipx_table.specs.Alive.{lifetime}
use Rattle.ipx_router.specs.Heard.{Heard, HeardRip}
use Rattle.ipx_router.specs.History.{History, Start, Second, Packet, IsOnPort, IsOfBytes}
use Rattle.ipx_router.specs.Port.{Port, own_address, everyone, is_up, is_local, takes_no_route}
use Rattle.ipx_router.specs.declared.route_offer.RouteOffer.{RouteOffer}
use Rattle.ipx_router.proofs.bytes.ReadInOneWay.{one_read}
use Rattle.ipx_router.proofs.port_values.PortOfEachNumber.{one_up}
use Rattle.ipx_internet.specs.Internet.{Internet, Place, IsInternet, NodesDiffer, ports_of, port_of, network_of}
use Rattle.ipx_internet.specs.Queue.{history_of, with_event}
use Rattle.ipx_internet.specs.Run.{AreHistories}
use Rattle.ipx_internet.specs.Ticks.{seconds_of}
use Rattle.ipx_internet.proofs.examples.Words.{network, node, port_on, at}
use Rattle.ipx_internet.proofs.lists.FoundInAList.{it_is}
use Rattle.ipx_laws.specs.Apart.{HasRoomBeside}
use Rattle.ipx_laws.specs.HeardInTicks.{IsHeardOutside}
use Rattle.ipx_laws.specs.InTime.{Names, seconds_in, AreQuick, AreHeardInTime}
use Rattle.ipx_laws.specs.Least.{Way, AreCheap, FifteenSuffice, least_route, way_of}
use Rattle.ipx_laws.specs.Meanwhile.{message_of, LeavesPorts}
use Rattle.ipx_laws.specs.Servers.{IsForHere}
use Rattle.ipx_laws.specs.Real.{IsReal, next, farther}
use Rattle.ipx_laws.specs.Outsiders.{ups_with, AreStopped, IsTrueOf, own_network, real_route, IsTrueAndLeast, IsOfOutsider, IsFromOutsider, MayComeTo, SaysTruly, IsSettingWith}
use Rattle.ipx_laws.specs.OutsidersInTime.{AreOutsidersInTime}
use Rattle.ipx_laws.specs.Tables.{route_of}
use Rattle.ipx_laws.specs.Ups.{ups}
use Rattle.ipx_laws.specs.Wires.{WireStep, Occurs, as_step, still, beats_of, IsBeat, EachWireStep, InBeats}
use Rattle.ipx_laws.proofs.examples.Leasts.{way}
use Rattle.ipx_laws.proofs.examples.Meanwhile.{are_bytes}
use Rattle.ipx_laws.proofs.examples.Rights.{is_port}
use Rattle.ipx_laws.proofs.examples.Ticks.{said, of_two}
use Rattle.ipx_laws.proofs.examples.Timely.{one_window, one_is_quick}
use Rattle.ipx_laws.proofs.outsiders.PortsOfOutsiders.{with_within}
use Rattle.ipx_laws.proofs.tables.FifteenHopsSuffice.{of_few_routers}

abbrev internet : Internet
internet = (port_on 0x10 1 ∷ port_on 0x20 2 ∷ []) ∷ (port_on 0x10 9 ∷ port_on 0x77 10 ∷ []) ∷ []

abbrev histories : List History
histories = (Start ∷ []) ∷ [] ∷ []

-- what the server says
abbrev its_own : RipEntry
its_own = record { network = network 0x77; hops = 1; ticks = 2 }

abbrev advertised : List ℕ
advertised = said 0x10 9 (its_own ∷ [])

abbrev beat : List WireStep
beat = Occurs 0 (Packet 0 advertised) ∷ Occurs 0 Second ∷ Occurs 1 Second ∷ []

abbrev up : ℕ → List ℕ
up = ups_with internet 1 histories

-- ---- the beat

bytes : IsBytes advertised
unfolding header_bytes address_bytes network_bytes entry_bytes
bytes = are_bytes advertised refl

pub is_beat : IsBeat internet beat
is_beat = record { happens = ((omega arith, omega arith, bytes), ((omega arith, tt, tt), ((omega arith, tt, tt), tt))); each = of_two (λ router. 1 ≤ seconds_of router (map as_step beat)) (omega arith) (omega arith) }

pub leaves : EachWireStep LeavesPorts (beat ∷ [])
leaves = ((tt, (tt, (tt, tt))), tt)

pub quick : AreQuick internet 1 (beat ∷ [])
quick = one_is_quick internet beat (of_two (λ router. seconds_in router (beat ∷ []) < lifetime) (omega arith) (omega arith))

-- ---- what the outsider says is true, and its least way

is_true : IsTrueOf internet up (at 1 0) its_own
is_true = own_network 1 refl (λ e. absurd (omega (arith, e))) refl

is_least : IsTrueAndLeast internet up (network 0x77) (at 1 0) its_own
is_least = (
  is_true,
  λ found least named. it_is (λ (v : Way). its_own ≡ record { network = network 0x77; hops = v.hops + 1; ticks = v.ticks + 1 }) found
      (record { hops = 0; ticks = 1 }) least refl,
)

of_outsider : IsOfOutsider internet up 1 (at 0 0) (node 9) (at 1 0)
of_outsider = record { outsider = omega arith; there = refl; network = refl; same_node = refl }

abbrev what_is_heard : Heard
what_is_heard = HeardRip (own_address (port_on 0x10 9)) (record { operation = Response; entries = its_own ∷ [] })

pub may : MayComeTo internet up 1 [] (IsTrueAndLeast internet up (network 0x77)) (at 0 0) advertised
unfolding header_bytes address_bytes network_bytes packet_of header_at address_at items network_at entry_bytes entry_at rip_of sap_of
may m e =
    inr (
      here,
      it_is (IsFromOutsider internet up 1 [] (IsTrueAndLeast internet up (network 0x77)) (at 0 0)) m what_is_heard (sym heard ∙ e)
          (refl, at 1 0, of_outsider, (inr is_least, tt)),
    )
  where
    heard : message_of advertised ≡ Some what_is_heard
    heard = refl

    here : IsForHere (port_on 0x10 1) advertised
    here p is =
        subst (λ (q : Parts). is_local (port_on 0x10 1) q.header.destination.network ≡ true)
        (one_read (packet_of advertised) (rip_packet_parts (own_address (port_on 0x10 9)) (everyone (port_on 0x10 9)) Response (its_own ∷ [])) p refl is) refl

pub truly : EachWireStep (SaysTruly internet up 1 [] (IsTrueAndLeast internet up (network 0x77))) (beat ∷ [])
truly = ((may, (tt, (tt, tt))), tt)

-- ---- what isn't true

-- that the network is farther away than it is: an own network is one hop away, and the outsider takes no route to it
abbrev farther_away : RipEntry
farther_away = record { network = network 0x77; hops = 3; ticks = 4 }

no_route : {r : RouteOffer} → IsReal internet up 1 r → r.network ≡ network 0x77 → ⊥
no_route {r} (next from beside on apart taken) named = true≢false (ap (λ (n : Network). takes_no_route (ports_of internet 1) n) (sym named) ∙ taken.wanted)
no_route {r} (farther from s apart taken near real) named = true≢false (ap (λ (n : Network). takes_no_route (ports_of internet 1) n) (sym named) ∙ taken.wanted)

pub not_true : IsTrueOf internet up (at 1 0) farther_away → ⊥
not_true (own_network beside on apart same) = let e : 3 ≡ 1 = ap (λ (x : RipEntry). x.hops) same in omega (arith, e)
not_true (real_route s apart real same) = no_route real (sym (ap (λ (x : RipEntry). x.network) same))

-- the router believes it
pub believed : option_map way_of (route_of internet 8 (with_event histories 0 (Packet 0 (said 0x10 9 (farther_away ∷ [])))) 0 (network 0x77)) ≡ way 3 4
unfolding header_bytes address_bytes network_bytes packet_of header_at address_at items network_at entry_bytes entry_at rip_of sap_of
believed = refl

-- ---- the internet

off : (m n : ℕ) → (m ≡ n → ⊥) → network m ≢ network n
off m n apart e = apart (ap (λ (x : Network). x.0) e)

pub made : IsInternet internet
made = record {
  ports = (
    (is_port 0x10 1 (lit< tt) (lit< tt) (lit< tt), (is_port 0x20 2 (lit< tt) (lit< tt) (lit< tt), tt)),
    ((is_port 0x10 9 (lit< tt) (lit< tt) (lit< tt), (is_port 0x77 10 (lit< tt) (lit< tt) (lit< tt), tt)), tt),
  );
  apart = ((((off 0x20 0x10 (λ (e : 0x20 ≡ 0x10). omega (arith, e)), tt), (tt, tt)), (((off 0x77 0x10 (λ (e : 0x77 ≡ 0x10). omega (arith, e)), tt), (tt, tt)), tt)));
}

pub differ : NodesDiffer internet
differ a b at_a at_b apart nets = by a.router a.port b.router b.port at_a at_b apart (ap (λ (n : Network). n.0) nets)
  where
    there : ℕ → ℕ → Port
    there r p = port_of internet (record { router = r; port = p })

    other : (r p s q : ℕ) → (get_or (there r p).node.0 5 0 ≡ get_or (there s q).node.0 5 0 → ⊥) → (there r p).node ≢ (there s q).node
    other r p s q apart e = apart (ap (λ (n : Node). get_or n.0 5 0) e)

    by : (r p s q : ℕ) → p < length (ports_of internet r) → q < length (ports_of internet s) → r ≢ s → (there r p).network.0 ≡ (there s q).network.0
        → (there r p).node ≢ (there s q).node
    by zero p zero q one two other_one nets = absurd (other_one refl)
    by (suc zero) p (suc zero) q one two other_one nets = absurd (other_one refl)
    by zero zero (suc zero) zero one two other_one nets = other 0 0 1 0 (λ (e : 1 ≡ 9). omega (arith, e))
    by zero zero (suc zero) (suc zero) one two other_one nets = absurd (omega (arith, nets))
    by zero (suc zero) (suc zero) zero one two other_one nets = absurd (omega (arith, nets))
    by zero (suc zero) (suc zero) (suc zero) one two other_one nets = absurd (omega (arith, nets))
    by (suc zero) zero zero zero one two other_one nets = other 1 0 0 0 (λ (e : 9 ≡ 1). omega (arith, e))
    by (suc zero) zero zero (suc zero) one two other_one nets = absurd (omega (arith, nets))
    by (suc zero) (suc zero) zero zero one two other_one nets = absurd (omega (arith, nets))
    by (suc zero) (suc zero) zero (suc zero) one two other_one nets = absurd (omega (arith, nets))
    by zero (suc (suc p)) s q one two other_one nets = absurd (omega (arith, one))
    by (suc zero) (suc (suc p)) s q one two other_one nets = absurd (omega (arith, one))
    by (suc (suc r)) p s q one two other_one nets = absurd (omega (arith, one))
    by r p zero (suc (suc q)) one two other_one nets = absurd (omega (arith, two))
    by r p (suc zero) (suc (suc q)) one two other_one nets = absurd (omega (arith, two))
    by r p (suc (suc s)) q one two other_one nets = absurd (omega (arith, two))

pub cheap : AreCheap internet
cheap = ((omega arith, (omega arith, tt)), ((omega arith, (omega arith, tt)), tt))

pub room : HasRoomBeside internet 8 []
room = record { table = (omega arith, (omega arith, tt)); shares = ((omega arith, (omega arith, tt)), ((omega arith, (omega arith, tt)), tt)) }

pub suffice : FifteenSuffice internet up (network 0x77)
suffice = of_few_routers internet up (with_within internet 1 histories) made (network 0x77) (omega arith)

pub are : AreHistories internet histories
are = record { each = refl; on_ports = on_ports; of_bytes = of_bytes }
  where
    on_ports : (router : ℕ) → AllByRecursion (IsOnPort (ports_of internet router)) (history_of histories router)
    on_ports zero = (tt, tt)
    on_ports (suc zero) = tt
    on_ports (suc (suc router)) = tt

    of_bytes : (router : ℕ) → AllByRecursion IsOfBytes (history_of histories router)
    of_bytes zero = (tt, tt)
    of_bytes (suc zero) = tt
    of_bytes (suc (suc router)) = tt

pub stopped : AreStopped internet 1 histories
stopped zero within outsider = absurd (omega (arith, outsider))
stopped (suc zero) within outsider = refl
stopped (suc (suc router)) within outsider = absurd (omega (arith, within))

pub setting : IsSettingWith internet 1 8 [] histories (network 0x77)
setting = (made, differ, suffice, cheap, room, are, stopped, refl)

-- ---- who is heard

-- no other router of ours is there
pub in_time : AreHeardInTime internet 8 8 0 1 (ups internet histories) (still histories) (beat ∷ [])
in_time from to n before within after on_from on_to other same parts wide = absurd (by from.router from.port to.router to.port on_from on_to other)
  where
    by : (r p s q : ℕ) → is_up (ups internet histories r) p ≡ true → is_up (ups internet histories s) q ≡ true → r ≢ s → ⊥
    by zero p zero q one two apart = apart refl
    by zero p (suc zero) q one two apart = true≢false (sym two)
    by zero p (suc (suc s)) q one two apart = true≢false (sym two)
    by (suc zero) p s q one two apart = true≢false (sym one)
    by (suc (suc r)) p s q one two apart = true≢false (sym one)

-- the outsider is, on 10h
abbrev Heard_at : Place → Place → List (List WireStep) → List (List WireStep) → Type 0
Heard_at to from before within =
    InBeats internet 8 8 0 (λ now step. IsHeardOutside internet to (Names (port_of internet from).node (network 0x77)) now.histories (as_step step))
    (beats_of internet 8 8 0 (still histories) before) within

by_ports : (r p s q : ℕ) → p < length (ports_of internet r) → q < length (ports_of internet s) → r < 1 → 1 ≤ s
    → network_of internet (at r p) ≡ network_of internet (at s q) → Heard_at (at r p) (at s q) [] (beat ∷ [])
unfolding header_bytes address_bytes network_bytes packet_of header_at address_at items network_at entry_bytes entry_at rip_of sap_of
by_ports zero zero (suc zero) zero here there mine outsider same = inl (refl, refl, what_is_heard, refl, (refl, refl, refl))
by_ports zero zero (suc zero) (suc zero) here there mine outsider same = absurd (let e : 0x10 ≡ 0x77 = ap (λ (m : Network). m.0) same in omega (arith, e))
by_ports zero (suc zero) (suc zero) zero here there mine outsider same = absurd (let e : 0x20 ≡ 0x10 = ap (λ (m : Network). m.0) same in omega (arith, e))
by_ports zero (suc zero) (suc zero) (suc zero) here there mine outsider same = absurd (let e : 0x20 ≡ 0x77 = ap (λ (m : Network). m.0) same in omega (arith, e))
by_ports zero (suc (suc p)) s q here there mine outsider same = absurd (omega (arith, here))
by_ports zero p (suc zero) (suc (suc q)) here there mine outsider same = absurd (omega (arith, there))
by_ports zero p (suc (suc s)) q here there mine outsider same = absurd (omega (arith, there))
by_ports zero p zero q here there mine outsider same = absurd (omega (arith, outsider))
by_ports (suc r) p s q here there mine outsider same = absurd (omega (arith, mine))

pub heard : AreOutsidersInTime internet 8 8 0 1 up 1 (network 0x77) (still histories) (beat ∷ [])
heard to from before within after leads parts wide =
    let (none, whole) = one_window beat before within after parts wide in
    subst (λ (b : List (List WireStep)). Heard_at to from b within) (sym none) (subst (λ (w : List (List WireStep)). Heard_at to from [] w) (sym whole)
    (by_ports to.router to.port from.router from.port
    (one_up (λ j. j < length (ports_of internet to.router)) (up to.router) to.port (with_within internet 1 histories to.router) leads.here)
    (one_up (λ j. j < length (ports_of internet from.router)) (up from.router) from.port (with_within internet 1 histories from.router) leads.there)
    leads.of_ours leads.an_outsider leads.one_network))

-- ---- what the router has then

abbrev known : List (List WireStep) → Option Way
known beats = option_map way_of (route_of internet 8 (beats_of internet 8 8 0 (still histories) beats).histories 0 (network 0x77))

pub right_then : known (beat ∷ []) ∷ least_route internet up 0 (network 0x77) ∷ [] ≡ way 1 2 ∷ way 1 2 ∷ []
unfolding header_bytes address_bytes network_bytes packet_of header_at address_at items network_at entry_bytes entry_at rip_of sap_of
right_then = refl

-- not before, nor without what it says
pub unheard : known [] ∷ known ((Occurs 0 Second ∷ Occurs 1 Second ∷ []) ∷ []) ∷ [] ≡ None ∷ None ∷ []
unheard = refl
