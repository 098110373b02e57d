-- The two routers of `Ticks`, which have routes to 99h, where nobody has a port, on wires. In the first beat a host on 10h says that it knows a
-- way to 77h, and nothing of what is sent for that lands. In the second what the first router said of it lands twice, if a beat isn't too late;
-- the first router's clock is faster, and has two seconds there. All else is lost.
use Rattle.std.proofs.Common.{◌≡◌, refl, ℕ, zero, suc, ◌≤◌, false, List, [], ◌∷◌, map, take, arith}
use Rattle.ipx_wire.specs.Address.{address_bytes, address_at}
use Rattle.ipx_wire.specs.Crossed.{network_bytes, network_at, is_among}
use Rattle.ipx_wire.specs.Header.{header_bytes, header_at}
use Rattle.ipx_wire.specs.Items.{items}
use Rattle.ipx_wire.specs.Packet.{packet_of}
use Rattle.ipx_wire.specs.Piece.{IsBytes}
use Rattle.ipx_wire.specs.Rip.{entry_bytes, entry_at, rip_of}
use Rattle.ipx_wire.specs.Sap.{sap_of}
use Rattle.ipx_router.specs.History.{History, Second, Packet, PortDown}
use Rattle.ipx_internet.specs.Ticks.{seconds_of}
use Rattle.ipx_internet.proofs.examples.Waiting.{segment}
use Rattle.ipx_internet.proofs.examples.Words.{network}
use Rattle.ipx_laws.specs.Gone.{IsGone}
use Rattle.ipx_laws.specs.Meanwhile.{IsWithoutRoute, SaysOnly}
use Rattle.ipx_laws.specs.Ups.{networks_up}
use Rattle.ipx_laws.specs.Wires.{WireStep, Occurs, Lands, as_step, still, beaten, wires_of, beats_of, KeepGone, IsBeat, AreBeats, EachWireStep}
use Rattle.ipx_laws.proofs.examples.Meanwhile.{news, may, are_bytes}
use Rattle.ipx_laws.proofs.examples.Ticks.{before, networks, of_two}

abbrev first : List WireStep
first = Occurs 1 (PortDown 1) ∷ Occurs 0 (Packet 0 news) ∷ Occurs 1 Second ∷ Occurs 0 Second ∷ []

abbrev second : List WireStep
second = Lands 1 ∷ Occurs 0 Second ∷ Occurs 1 Second ∷ Lands 1 ∷ Occurs 0 Second ∷ []

abbrev both : List (List WireStep)
both = first ∷ second ∷ []

-- the networks to which both have routes, after so many of these beats, where what flies takes so many
abbrev have : ℕ → List (List WireStep) → List (List ℕ)
have delay beats = map (networks (beats_of segment 8 8 delay (still before) beats).histories) (0 ∷ 1 ∷ [])

bytes : IsBytes news
unfolding header_bytes address_bytes network_bytes entry_bytes
bytes = are_bytes news refl

-- each has a second in each
is_first : IsBeat segment first
is_first = record { happens = ((omega arith, omega arith, tt), ((omega arith, omega arith, bytes), ((omega arith, tt, tt), ((omega arith, tt, tt), tt)))); each = of_two (λ router. 1 ≤ seconds_of router (map as_step first)) (omega arith) (omega arith) }

is_second : IsBeat segment second
is_second = record { happens = (tt, ((omega arith, tt, tt), ((omega arith, tt, tt), (tt, ((omega arith, tt, tt), tt))))); each = of_two (λ router. 1 ≤ seconds_of router (map as_step second)) (omega arith) (omega arith) }

pub are_beats : AreBeats segment both
are_beats = (is_first, (is_second, tt))

-- the host says nothing of 99h
pub say : EachWireStep (SaysOnly (IsWithoutRoute (network 0x99))) both
say = ((tt, (may, (tt, (tt, tt)))), ((tt, (tt, (tt, (tt, (tt, tt))))), tt))

-- where neither of the two has a port up on it, nobody has
gone : (n : ℕ) (histories : List History) → is_among (network n) (networks_up segment histories 0) ≡ false
    → is_among (network n) (networks_up segment histories 1) ≡ false → IsGone segment histories (network n)
gone n histories one two zero = one
gone n histories one two (suc zero) = two
gone n histories one two (suc (suc router)) = refl

-- the histories after so many steps of each
abbrev in_first : ℕ → List History
in_first n = (wires_of segment 8 8 1 (still before) (take n first)).histories

abbrev in_second : ℕ → List History
in_second n = (wires_of segment 8 8 1 (beaten (wires_of segment 8 8 1 (still before) first)) (take n second)).histories

pub keep_gone : KeepGone segment 8 8 1 (network 0x99) (still before) both
unfolding header_bytes address_bytes network_bytes packet_of header_at address_at items network_at entry_bytes entry_at rip_of sap_of
keep_gone = (
  (gone 0x99 (in_first 0) refl refl, (gone 0x99 (in_first 1) refl refl, (gone 0x99 (in_first 2) refl refl, (gone 0x99 (in_first 3) refl refl, gone 0x99 (in_first 4) refl refl)))),
  ((gone 0x99 (in_second 0) refl refl, (gone 0x99 (in_second 1) refl refl, (gone 0x99 (in_second 2) refl refl, (gone 0x99 (in_second 3) refl refl, (gone 0x99 (in_second 4) refl refl, gone 0x99 (in_second 5) refl refl))))), tt),
)

-- nothing landed in the first
pub have_first : have 1 (first ∷ []) ≡ (0x77 ∷ []) ∷ (0x99 ∷ []) ∷ []
unfolding header_bytes address_bytes network_bytes packet_of header_at address_at items network_at entry_bytes entry_at rip_of sap_of
have_first = refl

-- in the second the other router hears of 77h, unless that comes too late
pub have_both : have 1 both ≡ (0x77 ∷ []) ∷ (0x77 ∷ 0x99 ∷ []) ∷ []
unfolding header_bytes address_bytes network_bytes packet_of header_at address_at items network_at entry_bytes entry_at rip_of sap_of
have_both = refl

pub too_late : have 0 both ≡ (0x77 ∷ []) ∷ (0x99 ∷ []) ∷ []
unfolding header_bytes address_bytes network_bytes packet_of header_at address_at items network_at entry_bytes entry_at rip_of sap_of
too_late = refl
