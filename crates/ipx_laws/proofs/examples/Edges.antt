-- A client on 10h, which names no network of its own, says to all routers of the next network, 20h, that 77h is near. Without edges the second
-- router learns it, though the client is on another cable; with them it doesn't, and the first one lets the packet go on with its number.
use Rattle.std.proofs.Common.{◌≡◌, refl, ℕ, List, [], ◌∷◌, map}
use Rattle.ipx_wire.specs.Address.{address_bytes, address_at}
use Rattle.ipx_wire.specs.Crossed.{network_bytes, network_at}
use Rattle.ipx_wire.specs.Header.{header_bytes, header_at}
use Rattle.ipx_wire.specs.Items.{items}
use Rattle.ipx_wire.specs.Numbers.{rip_socket}
use Rattle.ipx_wire.specs.Packet.{packet_of}
use Rattle.ipx_wire.specs.Rip.{entry_bytes, entry_at, rip_of}
use Rattle.ipx_wire.specs.Sap.{sap_of}
use Rattle.ipx_wire.specs.Write.{rip_packet}
use Rattle.ipx_wire.specs.declared.address.Address.{Address}
use Rattle.ipx_wire.specs.declared.network.Network.{Network}
use Rattle.ipx_wire.specs.declared.rip.Operation.TheVariants.{Response}
use Rattle.ipx_router.specs.Facts.{routes_held, offers}
use Rattle.ipx_router.specs.History.{Start, Packet}
use Rattle.ipx_router.specs.Port.{everyone}
use Rattle.ipx_router.specs.declared.route_offer.RouteOffer.{RouteOffer}
use Rattle.ipx_edge.specs.Numbered.{numbered}
use Rattle.ipx_edge.specs.Places.{with_at}
use Rattle.ipx_internet.specs.Internet.{ports_of}
use Rattle.ipx_internet.specs.Queue.{history_of}
use Rattle.ipx_internet.specs.Run.{Step, Happens, Settles, Run, begun, run_of}
use Rattle.ipx_internet.proofs.examples.Waiting.{segment}
use Rattle.ipx_internet.proofs.examples.Words.{network, node, port_on, route}
use Rattle.ipx_laws.specs.Edges.{edge_run}

abbrev client : Network → Address
client on = record { network = on; node = node 0xCC; socket = record { 0 = rip_socket } }

abbrev says_from : Network → List ℕ
says_from on = rip_packet (client on) (everyone (port_on 0x20 3)) Response (record { network = network 0x77; hops = 1; ticks = 2 } ∷ [])

abbrev start : Run
start = begun ((Start ∷ []) ∷ (Start ∷ []) ∷ [])

abbrev steps : List Step
steps = Happens 0 (Packet 0 (says_from (network 0))) ∷ Settles ∷ []

-- the routes of the second router
abbrev learned : Run → List RouteOffer
learned run = offers (routes_held (ports_of segment 1) 8 (history_of run.histories 1))

pub without : learned (run_of segment 8 8 start steps) ≡ route 0x77 0 0xCC ∷ []
unfolding header_bytes address_bytes network_bytes packet_of header_at address_at items network_at entry_bytes entry_at rip_of sap_of
without = refl

pub with_edges : learned (edge_run segment 8 8 start steps) ≡ []
unfolding header_bytes address_bytes network_bytes packet_of header_at address_at items network_at entry_bytes entry_at rip_of sap_of numbered with_at
with_edges = refl

-- what the first router received
pub has_its_number : map (λ r. r.bytes) (edge_run segment 8 8 start steps).log ≡ says_from (network 0x10) ∷ []
unfolding header_bytes address_bytes network_bytes packet_of header_at address_at items network_at entry_bytes entry_at rip_of sap_of numbered with_at
has_its_number = refl
