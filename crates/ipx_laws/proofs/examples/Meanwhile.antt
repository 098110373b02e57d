-- The two routers of `Ticks`, which have routes to 99h, where nobody has a port. In the next tick the second router's port on 30h goes
-- down too, and a host on 10h says that it knows a way to 77h. Then neither has a route to 99h, and both have one to 77h.
use Rattle.std.proofs.Common.{◌≡◌, refl, ap, ℕ, zero, suc, ◌&&◌, nat_lt, Bool, true, false, List, [], ◌∷◌, replicate, take, Some, None, arith, true≢false}
use Rattle.std.specs.List.{AllByRecursion}
use Rattle.std.proofs.lemmas.Bool.{and_parts, ltb-true}
use Rattle.ipx_wire.specs.Address.{address_bytes, address_at}
use Rattle.ipx_wire.specs.Crossed.{network_bytes, network_at, is_among}
use Rattle.ipx_wire.specs.Items.{items}
use Rattle.ipx_wire.specs.Header.{header_bytes, header_at}
use Rattle.ipx_wire.specs.Packet.{packet_of}
use Rattle.ipx_wire.specs.Piece.{IsBytes}
use Rattle.ipx_wire.specs.Rip.{entry_bytes, entry_at, rip_of}
use Rattle.ipx_wire.specs.Sap.{sap_of}
use Rattle.ipx_wire.specs.declared.network.Network.{Network}
use Rattle.ipx_wire.specs.declared.rip.Operation.{Operation}
use Rattle.ipx_wire.specs.declared.rip.Operation.TheVariants.{Request, Response}
use Rattle.ipx_wire.specs.declared.rip.RipEntry.{RipEntry}
use Rattle.ipx_router.specs.Heard.{HeardRip}
use Rattle.ipx_router.specs.History.{History, Second, Packet, PortDown}
use Rattle.ipx_router.specs.Port.{own_address}
use Rattle.ipx_internet.specs.BusyTick.{IsBusyTick}
use Rattle.ipx_internet.specs.Run.{Step, Happens, Settles, begun, run_of}
use Rattle.ipx_internet.specs.Ticks.{seconds_of}
use Rattle.ipx_internet.proofs.examples.Waiting.{segment}
use Rattle.ipx_internet.proofs.examples.Words.{network, port_on, plain, node}
use Rattle.ipx_laws.specs.Gone.{IsGone}
use Rattle.ipx_laws.specs.Meanwhile.{message_of, IsWithoutRoute, SaysOnly, StaysGone, TellsNoRoute, LeavesPorts}
use Rattle.ipx_laws.specs.Ups.{networks_up}
use Rattle.ipx_laws.proofs.examples.Ticks.{said, before, networks, of_two}

abbrev entry : ℕ → RipEntry
entry n = record { network = network n; hops = 1; ticks = 2 }

abbrev pub news : List ℕ
news = said 0x10 0xAA (entry 0x77 ∷ [])

abbrev busy : List Step
busy = Happens 1 (PortDown 1) ∷ Happens 0 (Packet 0 news) ∷ Happens 0 Second ∷ Happens 1 Second ∷ replicate 4 Settles

-- the histories after so many of its steps
abbrev after : ℕ → List History
after n = (run_of segment 8 8 (begun before) (take n busy)).histories

-- ---- what may be heard of packets

pub heard_of : message_of news ≡ Some (HeardRip (own_address (port_on 0x10 0xAA)) (record { operation = Response; entries = entry 0x77 ∷ [] }))
unfolding header_bytes address_bytes network_bytes packet_of header_at address_at items network_at entry_bytes entry_at rip_of sap_of
heard_of = refl

-- a packet between hosts says nothing to a router's processes
pub unheard : message_of (plain 0 0x30 (node 0xCC)) ≡ None
unfolding header_bytes address_bytes network_bytes packet_of header_at address_at items network_at entry_bytes entry_at rip_of sap_of
unheard = refl

-- it may say that 77h is reached, but not that 99h is
pub may : SaysOnly (IsWithoutRoute (network 0x99)) (Happens 0 (Packet 0 news))
unfolding header_bytes address_bytes network_bytes packet_of header_at address_at items network_at entry_bytes entry_at rip_of sap_of
may = ((λ near same. let number : 0x77 ≡ 0x99 = ap (λ (n : Network). n.0) same in absurd (omega (arith, number))), tt)

pub may_not : SaysOnly (IsWithoutRoute (network 0x77)) (Happens 0 (Packet 0 news)) → ⊥
unfolding header_bytes address_bytes network_bytes packet_of header_at address_at items network_at entry_bytes entry_at rip_of sap_of
may_not says = says.0 (omega arith) refl

-- ---- the tick

-- numbers that are all small are bytes
abbrev pub all_small : List ℕ → Bool
all_small [] = true
all_small (x ∷ xs) = nat_lt x 256 && all_small xs

pub are_bytes : (xs : List ℕ) → all_small xs ≡ true → IsBytes xs
are_bytes [] small i = omega arith
are_bytes (x ∷ xs) small zero = ltb-true x 256 (and_parts (nat_lt x 256) (all_small xs) small).0
are_bytes (x ∷ xs) small (suc i) = are_bytes xs (and_parts (nat_lt x 256) (all_small xs) small).1 i

bytes : IsBytes news
unfolding header_bytes address_bytes network_bytes entry_bytes
bytes = are_bytes news refl

pub is_tick : IsBusyTick segment 8 8 (begun before) busy
unfolding header_bytes address_bytes network_bytes packet_of header_at address_at items network_at entry_bytes entry_at rip_of sap_of
is_tick = record {
  happens = ((omega arith, omega arith, tt), ((omega arith, omega arith, bytes), ((omega arith, tt, tt), ((omega arith, tt, tt), (tt, (tt, (tt, (tt, tt))))))));
  each = of_two (λ router. seconds_of router busy ≡ 1) refl refl;
  quiet = refl;
}

-- where neither of the two has a port up on it, nobody has
gone : (n : ℕ) (histories : List History) → is_among (network n) (networks_up segment histories 0) ≡ false → is_among (network n) (networks_up segment histories 1) ≡ false
    → IsGone segment histories (network n)
gone n histories first second zero = first
gone n histories first second (suc zero) = second
gone n histories first second (suc (suc router)) = refl

pub stays_gone : StaysGone segment 8 8 (network 0x99) (begun before) (take 2 busy)
unfolding header_bytes address_bytes network_bytes packet_of header_at address_at items network_at entry_bytes entry_at rip_of sap_of
stays_gone = (gone 0x99 (after 0) refl refl, (gone 0x99 (after 1) refl refl, gone 0x99 (after 2) refl refl))

-- 30h was there when the tick began
pub was_there : StaysGone segment 8 8 (network 0x30) (begun before) busy → ⊥
unfolding header_bytes address_bytes network_bytes packet_of header_at address_at items network_at entry_bytes entry_at rip_of sap_of
was_there gone = true≢false (gone.0 1)

pub have_now : networks (after 8) 0 ∷ networks (after 8) 1 ∷ [] ≡ (0x77 ∷ []) ∷ (0x10 ∷ 0x77 ∷ []) ∷ []
unfolding header_bytes address_bytes network_bytes packet_of header_at address_at items network_at entry_bytes entry_at rip_of sap_of
have_now = refl

-- ---- a tick that leaves ports as they are, in which a host sends to another one

abbrev talk : List ℕ
talk = plain 0 0x30 (node 0xCC)

abbrev calm : List Step
calm = Happens 0 (Packet 0 talk) ∷ Happens 0 Second ∷ Happens 1 Second ∷ replicate 4 Settles

talk_bytes : IsBytes talk
unfolding header_bytes address_bytes network_bytes
talk_bytes = are_bytes talk refl

pub is_calm : IsBusyTick segment 8 8 (begun before) calm
unfolding header_bytes address_bytes network_bytes packet_of header_at address_at items network_at entry_bytes entry_at rip_of sap_of
is_calm = record {
  happens = ((omega arith, omega arith, talk_bytes), ((omega arith, tt, tt), ((omega arith, tt, tt), (tt, (tt, (tt, (tt, tt)))))));
  each = of_two (λ router. seconds_of router calm ≡ 1) refl refl;
  quiet = refl;
}

pub leaves : AllByRecursion LeavesPorts calm
leaves = (tt, (tt, (tt, (tt, (tt, (tt, (tt, tt)))))))

pub tells_none : AllByRecursion (SaysOnly TellsNoRoute) calm
unfolding header_bytes address_bytes network_bytes packet_of header_at address_at items network_at entry_bytes entry_at rip_of sap_of
tells_none = (tt, (tt, (tt, (tt, (tt, (tt, (tt, tt)))))))

-- in the other tick a port goes down, and what the host says is a response of routing information
pub leaves_not : AllByRecursion LeavesPorts busy → ⊥
leaves_not all = all.0

pub tells_some : SaysOnly TellsNoRoute (Happens 0 (Packet 0 news)) → ⊥
unfolding header_bytes address_bytes network_bytes packet_of header_at address_at items network_at entry_bytes entry_at rip_of sap_of
tells_some says = true≢false (ap (λ (o : Operation). elim o [ Response ↦ true | Request ↦ false ]) says)
