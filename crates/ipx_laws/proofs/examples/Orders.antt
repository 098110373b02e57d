-- Two routers on one segment are started. What they send each other is delivered last in, first out: no packet comes in the order in which it
-- was sent, and yet nothing waits after eight deliveries, and both know each other's networks.
use Rattle.std.proofs.Common.{◌≡◌, refl, ℕ, List, [], ◌∷◌, map, lit<}
use Rattle.ipx_wire.specs.Address.{address_bytes, address_at}
use Rattle.ipx_wire.specs.Crossed.{network_bytes, network_at}
use Rattle.ipx_wire.specs.Items.{items}
use Rattle.ipx_wire.specs.Header.{header_bytes, header_at}
use Rattle.ipx_wire.specs.Packet.{packet_of}
use Rattle.ipx_wire.specs.Rip.{entry_bytes, entry_at, rip_of}
use Rattle.ipx_wire.specs.Sap.{sap_of}
use Rattle.ipx_internet.specs.InternetWeight.{queued_weight}
use Rattle.ipx_internet.specs.Queue.{history_of}
use Rattle.ipx_internet.specs.Tree.{router_now}
use Rattle.ipx_internet.proofs.examples.Waiting.{segment, after}
use Rattle.ipx_internet.proofs.examples.Words.{port_on, route, at}
use Rattle.ipx_laws.specs.AnyOrder.{settled_in, delivered_in, GoesOn}

-- the place of the last one, each time
abbrev last_first : List ℕ
last_first = 5 ∷ 4 ∷ 4 ∷ 3 ∷ 2 ∷ 1 ∷ 1 ∷ 0 ∷ []

-- the query causes nothing, the request an answer, which is the next
pub answered : map (λ d. d.to) (settled_in segment 8 8 (5 ∷ 4 ∷ []) (after 0)).queue ≡ at 1 0 ∷ at 1 0 ∷ at 1 0 ∷ at 0 1 ∷ at 1 0 ∷ []
unfolding header_bytes address_bytes network_bytes packet_of header_at address_at items network_at entry_bytes entry_at rip_of sap_of
answered = refl

pub quiet : (settled_in segment 8 8 last_first (after 0)).queue ≡ []
unfolding header_bytes address_bytes network_bytes packet_of header_at address_at items network_at entry_bytes entry_at rip_of sap_of
quiet = refl

pub both_learned : (router_now (port_on 0x10 1 ∷ port_on 0x20 2 ∷ []) 8 (history_of (settled_in segment 8 8 last_first (after 0)).histories 0)).routes
    ∷ (router_now (port_on 0x20 3 ∷ port_on 0x30 4 ∷ []) 8 (history_of (settled_in segment 8 8 last_first (after 0)).histories 1)).routes ∷ []
    ≡ (route 0x30 1 3 ∷ []) ∷ (route 0x10 0 2 ∷ []) ∷ []
unfolding header_bytes address_bytes network_bytes packet_of header_at address_at items network_at entry_bytes entry_at rip_of sap_of
both_learned = refl

-- a place where nothing waits delivers nothing
pub eight : delivered_in segment 8 8 (9 ∷ last_first) (after 0) ≡ 8
unfolding header_bytes address_bytes network_bytes packet_of header_at address_at items network_at entry_bytes entry_at rip_of sap_of
eight = refl

-- it weighs less each time, until each holds one route
pub falls : map (λ order. queued_weight segment 8 8 (settled_in segment 8 8 order (after 0))) ([] ∷ (5 ∷ []) ∷ (5 ∷ 4 ∷ []) ∷ (5 ∷ 4 ∷ 4 ∷ []) ∷ last_first ∷ [])
    ≡ 1092 ∷ 849 ∷ 608 ∷ 578 ∷ 2 ∷ []
unfolding header_bytes address_bytes network_bytes packet_of header_at address_at items network_at entry_bytes entry_at rip_of sap_of
falls = refl

-- so it is an order of which the law speaks
pub goes_on : GoesOn segment 8 8 last_first (after 0)
unfolding header_bytes address_bytes network_bytes packet_of header_at address_at items network_at entry_bytes entry_at rip_of sap_of
goes_on = (
  λ some. lit< tt,
  (λ some. lit< tt, (λ some. lit< tt, (λ some. lit< tt, (λ some. lit< tt, (λ some. lit< tt, (λ some. lit< tt, (λ some. lit< tt, tt))))))),
)
