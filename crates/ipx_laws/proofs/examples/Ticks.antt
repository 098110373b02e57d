-- Two routers on one segment have routes to 99h, where nobody has a port: the first heard of it from a host, and it ends in
-- the next second; the second heard of it from the first. One tick later neither has one, and the second has a route of a real way.
use Rattle.std.proofs.Common.{◌≡◌, refl, ℕ, ◌-◌, zero, suc, ◌<◌, ◌==◌, List, [], ◌∷◌, length, map, filter, replicate, None, arith}
use Rattle.ipx_wire.specs.Address.{address_bytes, address_at}
use Rattle.ipx_wire.specs.Crossed.{network_bytes, network_at}
use Rattle.ipx_wire.specs.Items.{items}
use Rattle.ipx_wire.specs.Header.{header_bytes, header_at}
use Rattle.ipx_wire.specs.Packet.{packet_of}
use Rattle.ipx_wire.specs.Rip.{entry_bytes, entry_at, rip_of}
use Rattle.ipx_wire.specs.Sap.{sap_of}
use Rattle.ipx_wire.specs.Write.{rip_packet}
use Rattle.ipx_wire.specs.declared.rip.Operation.TheVariants.{Response}
use Rattle.ipx_wire.specs.declared.rip.RipEntry.{RipEntry}
use Rattle.ipx_table.specs.Alive.{lifetime}
use Rattle.ipx_router.specs.Facts.{routes_held, offers}
use Rattle.ipx_router.specs.History.{History, Start, Second, Packet}
use Rattle.ipx_router.specs.Port.{own_address, everyone}
use Rattle.ipx_internet.specs.Internet.{ports_of}
use Rattle.ipx_internet.specs.Queue.{history_of}
use Rattle.ipx_internet.specs.Run.{Run, begun, run_of}
use Rattle.ipx_internet.specs.Ticks.{seconds_of, IsTick, a_tick, a_tick_by, IsOrder}
use Rattle.ipx_internet.proofs.examples.Waiting.{segment}
use Rattle.ipx_internet.proofs.examples.Words.{network, port_on, route, at}
use Rattle.ipx_laws.specs.Gone.{IsGone}
use Rattle.ipx_laws.specs.Real.{IsReal, next, led_over}
use Rattle.ipx_laws.specs.Ups.{ups}

-- what is so of both of two routers
pub of_two : (Is : ℕ → Type 0) → Is 0 → Is 1 → (router : ℕ) → router < 2 → Is router
of_two Is first second zero within = first
of_two Is first second (suc zero) within = second
of_two Is first second (suc (suc router)) within = absurd (omega (arith, within))

abbrev pub said : ℕ → ℕ → List RipEntry → List ℕ
said n k entries = rip_packet (own_address (port_on n k)) (everyone (port_on n k)) Response entries

abbrev entry : ℕ → ℕ → RipEntry
entry hops ticks = record { network = network 0x99; hops = hops; ticks = ticks }

-- a host on 10h said that 99h is one hop away, and all seconds of its lifetime but one passed; the first router said that it is two hops
-- away
abbrev pub before : List History
before = (Start ∷ Packet 0 (said 0x10 0xAA (entry 1 2 ∷ [])) ∷ replicate (lifetime - 1) Second) ∷ (Start ∷ Packet 0 (said 0x20 2 (entry 2 3 ∷ [])) ∷ []) ∷ []

abbrev pub networks : List History → ℕ → List ℕ
networks histories router = map (λ r. r.network.0) (offers (routes_held (ports_of segment router) 8 (history_of histories router)))

abbrev after : List History
after = (run_of segment 8 8 (begun before) (a_tick 2 1)).histories

-- nobody has a port on it
pub is_gone : IsGone segment before (network 0x99)
unfolding header_bytes address_bytes network_bytes packet_of header_at address_at items network_at entry_bytes entry_at rip_of sap_of
is_gone zero = refl
is_gone (suc zero) = refl
is_gone (suc (suc router)) = refl

pub both_have : networks before 0 ∷ networks before 1 ∷ [] ≡ (0x99 ∷ []) ∷ (0x99 ∷ []) ∷ []
unfolding header_bytes address_bytes network_bytes packet_of header_at address_at items network_at entry_bytes entry_at rip_of sap_of
both_have = refl

-- each has its second, and what the first says of it then is handed out
pub is_tick : IsTick segment 8 8 (begun before) (a_tick 2 1)
unfolding header_bytes address_bytes network_bytes packet_of header_at address_at items network_at entry_bytes entry_at rip_of sap_of
is_tick = record { passes = ((omega arith, refl), ((omega arith, refl), (tt, tt))); each = of_two (λ router. seconds_of router (a_tick 2 1) ≡ 1) refl refl; quiet = refl }

-- the second router may have its second first
pub is_order : IsOrder segment (1 ∷ 0 ∷ [])
is_order = record { there = (omega arith, (omega arith, tt)); once = of_two (λ router. length (filter (λ other. other == router) (1 ∷ 0 ∷ [])) ≡ 1) refl refl }

pub is_tick_too : IsTick segment 8 8 (begun before) (a_tick_by (1 ∷ 0 ∷ []) 1)
unfolding header_bytes address_bytes network_bytes packet_of header_at address_at items network_at entry_bytes entry_at rip_of sap_of
is_tick_too = record { passes = ((omega arith, refl), ((omega arith, refl), (tt, tt))); each = of_two (λ router. seconds_of router (a_tick_by (1 ∷ 0 ∷ []) 1) ≡ 1) refl refl; quiet = refl }

-- where a forged response waits as well, which says that 99h is one hop from the first router, a tick takes one delivery more
abbrev forged : Run
forged = record {
  histories = before;
  waiting = record { delivery = record { to = at 1 0; bytes = said 0x20 2 (entry 1 2 ∷ []) }; origin = None } ∷ [];
  log = [];
}

pub left : map (λ n. length (run_of segment 8 8 forged (a_tick 2 n)).waiting) (0 ∷ 1 ∷ 2 ∷ []) ≡ 2 ∷ 1 ∷ 0 ∷ []
unfolding header_bytes address_bytes network_bytes packet_of header_at address_at items network_at entry_bytes entry_at rip_of sap_of
left = refl

pub neither_has : networks after 0 ∷ networks after 1 ∷ [] ≡ [] ∷ (0x10 ∷ []) ∷ []
unfolding header_bytes address_bytes network_bytes packet_of header_at address_at items network_at entry_bytes entry_at rip_of sap_of
neither_has = refl

-- the second router's route is to a network that the first has on its other port
pub is_real : IsReal segment (ups segment before) 1 (route 0x10 0 2)
unfolding header_bytes address_bytes network_bytes packet_of header_at address_at items network_at entry_bytes entry_at rip_of sap_of
is_real = next (at 0 1) 0 refl (λ (same : 0 ≡ 1). omega (arith, same))
    (record { other = λ (same : 1 ≡ 0). omega (arith, same); here = refl; there = refl; network = refl; wanted = refl; offer = refl })

-- the way leads over that route's port, the first router's on the same segment, and the first router's on the network itself
pub leads_over : led_over segment (ups segment before) 1 (route 0x10 0 2) is_real ≡ at 1 0 ∷ at 0 1 ∷ at 0 0 ∷ []
unfolding header_bytes address_bytes network_bytes packet_of header_at address_at items network_at entry_bytes entry_at rip_of sap_of is_real
leads_over = refl
