-- The two routers of `Waiting`, started 59 seconds ago, on wires, and the host of `Hosts` on 10h, which the first router has heard. In the
-- beat that follows the host announces its file server again, each router broadcasts, and the first router's services land: so in a window of
-- one beat the host and the first router are heard, and then the second router has the server, two hops away. Lost, it hasn't.
use Rattle.std.proofs.Common.{◌≡◌, ◌≢◌, refl, sym, ap, ◌∙◌, subst, ℕ, zero, suc, ◌<◌, ◌≤◌, List, [], ◌∷◌, ◌++◌, length, map, replicate, Some, None, Option, inl, inr, arith}
use Rattle.ipx_wire.specs.Address.{address_bytes, address_at}
use Rattle.ipx_wire.specs.Crossed.{network_bytes, network_at}
use Rattle.ipx_wire.specs.Header.{header_bytes, header_at}
use Rattle.ipx_wire.specs.Items.{items}
use Rattle.ipx_wire.specs.Name.{name_field, name_of}
use Rattle.ipx_wire.specs.Packet.{packet_of}
use Rattle.ipx_wire.specs.Rip.{entry_bytes, entry_at, rip_of}
use Rattle.ipx_wire.specs.Sap.{sap_of}
use Rattle.ipx_wire.specs.SapEntries.{sap_entry_at}
use Rattle.ipx_wire.specs.WriteServices.{service_bytes}
use Rattle.ipx_wire.specs.declared.network.Network.{Network}
use Rattle.ipx_wire.specs.declared.service.Service.{Service}
use Rattle.ipx_table.specs.Alive.{lifetime}
use Rattle.ipx_router.specs.History.{History, Start, Second, Packet}
use Rattle.ipx_router.proofs.port_values.PortOfEachNumber.{one_up}
use Rattle.ipx_internet.specs.Internet.{Place, ports_of, port_of, network_of}
use Rattle.ipx_internet.specs.Ticks.{seconds_of}
use Rattle.ipx_internet.proofs.examples.Waiting.{segment}
use Rattle.ipx_internet.proofs.examples.Words.{at}
use Rattle.ipx_internet.proofs.lists.FoundInAList.{nothing}
use Rattle.ipx_laws.specs.InTime.{seconds_in, AreQuick}
use Rattle.ipx_laws.specs.Meanwhile.{LeavesPorts}
use Rattle.ipx_laws.specs.Servers.{Announcer, at_hops, known_of}
use Rattle.ipx_laws.specs.Tables.{services_of}
use Rattle.ipx_laws.specs.Ups.{ups}
use Rattle.ipx_laws.specs.WireRegular.{IsHostHeard, IsRouterHeard, AdvertisesService, AreHostsInTime, AreRoutersInTime, AreRegularBeats}
use Rattle.ipx_laws.specs.Wires.{WireStep, Occurs, Lands, as_step, still, beats_of, Along, EachBeat, IsBeat, EachWireStep, InBeats}
use Rattle.ipx_laws.proofs.examples.Announcing.{host, the_port}
use Rattle.ipx_laws.proofs.examples.Hosts.{server, said, names, bytes, says, names_it, the_host}
use Rattle.ipx_laws.proofs.examples.Ticks.{of_two}
use Rattle.ipx_laws.proofs.examples.Timely.{one_window, one_is_quick}
use Rattle.ipx_laws.proofs.tables.LeastWays.{ups_within}

abbrev histories : List History
histories = (Start ∷ replicate 59 Second ++ Packet 0 (said 0x10) ∷ []) ∷ (Start ∷ replicate 59 Second) ∷ []

abbrev beat : List WireStep
beat = Occurs 0 (Packet 0 (said 0x10)) ∷ Occurs 0 Second ∷ Occurs 1 Second ∷ Lands 1 ∷ []

abbrev up : ℕ → List ℕ
up = ups segment histories

pub is_beat : IsBeat segment beat
is_beat = record { happens = ((omega arith, omega arith, bytes), ((omega arith, tt, tt), ((omega arith, tt, tt), (tt, tt)))); each = of_two (λ router. 1 ≤ seconds_of router (map as_step beat)) (omega arith) (omega arith) }

pub leaves : EachWireStep LeavesPorts (beat ∷ [])
leaves = ((tt, (tt, (tt, (tt, tt)))), tt)

pub quick : AreQuick segment 1 (beat ∷ [])
quick = one_is_quick segment beat (of_two (λ router. seconds_in router (beat ∷ []) < lifetime) (omega arith) (omega arith))

-- ---- the host is heard

abbrev HostHeard : Place → Announcer → List (List WireStep) → List (List WireStep) → Type 0
HostHeard to other before within = InBeats segment 8 8 0 (IsHostHeard segment 8 8 0 (server 0x10) to other) (beats_of segment 8 8 0 (still histories) before) within

host_heard : HostHeard (at 0 0) host [] (beat ∷ [])
unfolding header_bytes address_bytes network_bytes service_bytes name_field packet_of header_at address_at items network_at entry_bytes entry_at rip_of sap_of sap_entry_at name_of
host_heard = inl (refl, refl, _, refl, (refl, 0, refl))

pub hosts_in_time : AreHostsInTime segment 8 8 0 (server 0x10) 1 up (still histories) (beat ∷ [])
hosts_in_time which other to listed on on_network before within after parts wide =
    let (none, whole) = one_window beat before within after parts wide in
    let is_host = the_host which other listed in
    let place : to ≡ at 0 0 = the_port to.router to.port (ap (λ (n : Network). n.0) on_network ∙ ap (λ (h : Announcer). h.network.0) is_host) in
    subst (λ (b : List (List WireStep)). HostHeard to other b within) (sym none) (subst (λ (w : List (List WireStep)). HostHeard to other [] w) (sym whole)
    (subst (λ (p : Place). HostHeard p other [] (beat ∷ [])) (sym place) (subst (λ (h : Announcer). HostHeard (at 0 0) h [] (beat ∷ [])) (sym is_host) host_heard)))

pub regular : AreRegularBeats segment 8 8 0 (server 0x10) 1 names up (still histories) (beat ∷ [])
regular = (((says, (tt, (tt, (tt, tt)))), tt), ((names_it, (tt, (tt, (tt, tt)))), tt), hosts_in_time)

-- ---- so is the first router

abbrev Heard : Place → Place → List (List WireStep) → List (List WireStep) → Type 0
Heard from to before within =
    EachBeat segment 8 8 0 (Along segment 8 8 0 (AdvertisesService segment 8 8 0 (server 0x10) from)) (beats_of segment 8 8 0 (still histories) before) within
    → InBeats segment 8 8 0 (IsRouterHeard segment 8 8 0 (server 0x10) to (port_of segment from).node) (beats_of segment 8 8 0 (still histories) before) within

by_ports : (r p s q : ℕ) → p < length (ports_of segment r) → q < length (ports_of segment s) → r ≢ s → network_of segment (at r p) ≡ network_of segment (at s q)
    → Heard (at r p) (at s q) [] (beat ∷ [])
unfolding header_bytes address_bytes network_bytes service_bytes name_field packet_of header_at address_at items network_at entry_bytes entry_at rip_of sap_of sap_entry_at name_of
by_ports zero (suc zero) (suc zero) zero here there other same =
    λ advertised. inr (inr (inr (inl (_, refl, refl, omega arith, _, refl, (refl, 0, _, refl, _, refl, (refl, refl))))))
by_ports (suc zero) zero zero (suc zero) here there other same = λ advertised. nothing (advertised.0.0.2)
by_ports zero zero (suc zero) zero here there other same = absurd (let e : 0x10 ≡ 0x20 = ap (λ (m : Network). m.0) same in omega (arith, e))
by_ports zero zero (suc zero) (suc zero) here there other same = absurd (let e : 0x10 ≡ 0x30 = ap (λ (m : Network). m.0) same in omega (arith, e))
by_ports zero (suc zero) (suc zero) (suc zero) here there other same = absurd (let e : 0x20 ≡ 0x30 = ap (λ (m : Network). m.0) same in omega (arith, e))
by_ports (suc zero) zero zero zero here there other same = absurd (let e : 0x20 ≡ 0x10 = ap (λ (m : Network). m.0) same in omega (arith, e))
by_ports (suc zero) (suc zero) zero zero here there other same = absurd (let e : 0x30 ≡ 0x10 = ap (λ (m : Network). m.0) same in omega (arith, e))
by_ports (suc zero) (suc zero) zero (suc zero) here there other same = absurd (let e : 0x30 ≡ 0x20 = ap (λ (m : Network). m.0) same in omega (arith, e))
by_ports zero p zero q here there other same = absurd (other refl)
by_ports (suc zero) p (suc zero) q here there other same = absurd (other refl)
by_ports (suc (suc r)) p s q here there other same = absurd (omega (arith, here))
by_ports zero p (suc (suc s)) q here there other same = absurd (omega (arith, there))
by_ports (suc zero) p (suc (suc s)) q here there other same = absurd (omega (arith, there))
by_ports zero (suc (suc p)) (suc zero) q here there other same = absurd (omega (arith, here))
by_ports zero p (suc zero) (suc (suc q)) here there other same = absurd (omega (arith, there))
by_ports (suc zero) (suc (suc p)) zero q here there other same = absurd (omega (arith, here))
by_ports (suc zero) p zero (suc (suc q)) here there other same = absurd (omega (arith, there))

pub routers_in_time : AreRoutersInTime segment 8 8 0 (server 0x10) 1 up (still histories) (beat ∷ [])
routers_in_time from to before within after on_from on_to other same parts wide =
    let (none, whole) = one_window beat before within after parts wide in
    subst (λ (b : List (List WireStep)). Heard from to b within) (sym none) (subst (λ (w : List (List WireStep)). Heard from to [] w) (sym whole)
    (by_ports from.router from.port to.router to.port
    (one_up (λ j. j < length (ports_of segment from.router)) (up from.router) from.port (ups_within segment histories from.router) on_from)
    (one_up (λ j. j < length (ports_of segment to.router)) (up to.router) to.port (ups_within segment histories to.router) on_to) other same))

-- ---- what they have

abbrev have : List (List WireStep) → List (Option Service)
have beats = map (λ router. known_of (server 0x10) (services_of segment 8 (beats_of segment 8 8 0 (still histories) beats).histories router)) (0 ∷ 1 ∷ [])

pub known_then : have (beat ∷ []) ≡ Some (at_hops (server 0x10) 1) ∷ Some (at_hops (server 0x10) 2) ∷ []
unfolding header_bytes address_bytes network_bytes service_bytes name_field packet_of header_at address_at items network_at entry_bytes entry_at rip_of sap_of sap_entry_at name_of
known_then = refl

pub all_lost : have ((Occurs 0 Second ∷ Occurs 1 Second ∷ []) ∷ []) ≡ Some (at_hops (server 0x10) 1) ∷ None ∷ []
unfolding header_bytes address_bytes network_bytes service_bytes name_field packet_of header_at address_at items network_at entry_bytes entry_at rip_of sap_of sap_entry_at name_of
all_lost = refl
