-- Two routers on one segment are started: what they send each other waits, first in first out.
use Rattle.std.proofs.Common.{◌≡◌, refl, ℕ, [], ◌∷◌, map, None}
use Rattle.ipx_wire.specs.Address.{address_bytes, address_at}
use Rattle.ipx_wire.specs.Crossed.{network_bytes, network_at}
use Rattle.ipx_wire.specs.Items.{items}
use Rattle.ipx_wire.specs.Header.{header_bytes, header_at}
use Rattle.ipx_wire.specs.Packet.{packet_of}
use Rattle.ipx_wire.specs.Rip.{entry_bytes, entry_at, rip_of}
use Rattle.ipx_wire.specs.Sap.{sap_of}
use Rattle.ipx_router.specs.History.{Start}
use Rattle.ipx_internet.specs.Internet.{Internet}
use Rattle.ipx_internet.specs.Queue.{Queued, history_of, queued, settled}
use Rattle.ipx_internet.specs.Run.{Happens, Settles, begun, run_of}
use Rattle.ipx_internet.specs.Tree.{router_now}
use Rattle.ipx_internet.proofs.examples.Words.{port_on, route, at}

abbrev pub segment : Internet
segment = (port_on 0x10 1 ∷ port_on 0x20 2 ∷ []) ∷ (port_on 0x20 3 ∷ port_on 0x30 4 ∷ []) ∷ []

-- both were started, and so many deliveries handed out
abbrev pub after : ℕ → Queued
after n = settled segment 8 8 n (queued segment 8 8 (queued segment 8 8 (record { histories = [] ∷ [] ∷ []; queue = [] }) 0 Start) 1 Start)

-- each sent the other a response, a request and a query, the first router first
pub six : map (λ d. d.to) (after 0).queue ≡ at 1 0 ∷ at 1 0 ∷ at 1 0 ∷ at 0 1 ∷ at 0 1 ∷ at 0 1 ∷ []
unfolding header_bytes address_bytes network_bytes packet_of header_at address_at items network_at entry_bytes entry_at rip_of sap_of
six = refl

-- the response causes nothing here, the request an answer, which waits behind all others
pub five : map (λ d. d.to) (after 1).queue ≡ at 1 0 ∷ at 1 0 ∷ at 0 1 ∷ at 0 1 ∷ at 0 1 ∷ []
unfolding header_bytes address_bytes network_bytes packet_of header_at address_at items network_at entry_bytes entry_at rip_of sap_of
five = refl

pub still_five : map (λ d. d.to) (after 2).queue ≡ at 1 0 ∷ at 0 1 ∷ at 0 1 ∷ at 0 1 ∷ at 0 1 ∷ []
unfolding header_bytes address_bytes network_bytes packet_of header_at address_at items network_at entry_bytes entry_at rip_of sap_of
still_five = refl

-- by then the second router has a route to 10h
pub learned : (router_now (port_on 0x20 3 ∷ port_on 0x30 4 ∷ []) 8 (history_of (after 1).histories 1)).routes ≡ route 0x10 0 2 ∷ []
unfolding header_bytes address_bytes network_bytes packet_of header_at address_at items network_at entry_bytes entry_at rip_of sap_of
learned = refl

-- the last answer is left, then nothing
pub one : map (λ d. d.to) (after 7).queue ≡ at 1 0 ∷ []
unfolding header_bytes address_bytes network_bytes packet_of header_at address_at items network_at entry_bytes entry_at rip_of sap_of
one = refl

pub quiet : (after 8).queue ≡ []
unfolding header_bytes address_bytes network_bytes packet_of header_at address_at items network_at entry_bytes entry_at rip_of sap_of
quiet = refl

-- and each router has the other's network
pub both_learned : (router_now (port_on 0x10 1 ∷ port_on 0x20 2 ∷ []) 8 (history_of (after 8).histories 0)).routes
    ∷ (router_now (port_on 0x20 3 ∷ port_on 0x30 4 ∷ []) 8 (history_of (after 8).histories 1)).routes ∷ []
    ≡ (route 0x30 1 3 ∷ []) ∷ (route 0x10 0 2 ∷ []) ∷ []
unfolding header_bytes address_bytes network_bytes packet_of header_at address_at items network_at entry_bytes entry_at rip_of sap_of
both_learned = refl

-- nothing of this is a forward, so nothing that is listed has an origin
pub all_roots : map (λ r. r.origin)
    (run_of segment 8 8 (begun ([] ∷ [] ∷ [])) (Happens 0 Start ∷ Happens 1 Start ∷ Settles ∷ Settles ∷ Settles ∷ Settles ∷ Settles ∷ [])).log
    ≡ None ∷ None ∷ None ∷ None ∷ None ∷ []
unfolding header_bytes address_bytes network_bytes packet_of header_at address_at items network_at entry_bytes entry_at rip_of sap_of
all_roots = refl
