-- A client on 30h asks for the nearest file server. The second router of `Hosts`, two hops from one, answers with it, three hops from there.
use Rattle.std.proofs.Common.{◌≡◌, ◌≢◌, refl, ℕ, true, List, Some, arith}
use Rattle.ipx_wire.specs.Address.{address_bytes, address_at}
use Rattle.ipx_wire.specs.Crossed.{network_bytes, network_at}
use Rattle.ipx_wire.specs.Header.{header_bytes, header_at}
use Rattle.ipx_wire.specs.Items.{items}
use Rattle.ipx_wire.specs.Name.{name_field, name_of}
use Rattle.ipx_wire.specs.Packet.{packet_of}
use Rattle.ipx_wire.specs.Piece.{IsBytes}
use Rattle.ipx_wire.specs.Rip.{entry_bytes, entry_at, rip_of}
use Rattle.ipx_wire.specs.Sap.{sap_of}
use Rattle.ipx_wire.specs.SapEntries.{sap_entry_at}
use Rattle.ipx_wire.specs.Write.{query_packet}
use Rattle.ipx_wire.specs.WriteServices.{service_bytes}
use Rattle.ipx_wire.specs.declared.address.Address.{Address}
use Rattle.ipx_wire.specs.declared.sap.Sap.TheVariants.{Query}
use Rattle.ipx_router.specs.Facts.{heard_after}
use Rattle.ipx_router.specs.Heard.{HeardSap}
use Rattle.ipx_router.specs.History.{Packet}
use Rattle.ipx_router.specs.Numbers.{every_service}
use Rattle.ipx_router.specs.Port.{every_server}
use Rattle.ipx_internet.specs.Internet.{ports_of}
use Rattle.ipx_internet.specs.Queue.{history_of, sends_at}
use Rattle.ipx_internet.specs.Run.{Run, run_of}
use Rattle.ipx_internet.proofs.examples.Waiting.{segment}
use Rattle.ipx_internet.proofs.examples.Words.{network, node, port_on, at}
use Rattle.ipx_laws.specs.Nearest.{LeadsElsewhere, IsAnswered}
use Rattle.ipx_laws.specs.Servers.{at_hops}
use Rattle.ipx_laws.specs.Ups.{ups}
use Rattle.ipx_laws.proofs.examples.Hosts.{server, said, start, tick}
use Rattle.ipx_laws.proofs.examples.Meanwhile.{are_bytes}

-- the client
abbrev client : Address
client = record { network = network 0x30; node = node 0xBB; socket = record { 0 = 0x4003 } }

abbrev query : List ℕ
query = query_packet client (every_server (port_on 0x30 4)) true 4

abbrev after : Run
after = run_of segment 8 8 start (tick 0 (said 0x10))

pub bytes : IsBytes query
unfolding header_bytes address_bytes network_bytes
bytes = are_bytes query refl

pub is_heard : heard_after (ports_of segment 1) (history_of after.histories 1) 1 query ≡ Some (HeardSap client (Query true 4))
unfolding header_bytes address_bytes network_bytes service_bytes name_field packet_of header_at address_at items network_at entry_bytes entry_at rip_of sap_of sap_entry_at name_of
is_heard = refl

pub answers : IsAnswered (ports_of segment 1) 1 client 4 3 (sends_at segment 8 8 after.histories 1 (Packet 1 query))
unfolding header_bytes address_bytes network_bytes service_bytes name_field packet_of header_at address_at items network_at entry_bytes entry_at rip_of sap_of sap_entry_at name_of
answers = record { service = at_hops (server 0x10) 3; of_kind = refl; near = omega arith; alone = refl }

pub elsewhere : LeadsElsewhere segment (ups segment start.histories) (server 0x10) (at 1 1) 2
elsewhere = grind arith

pub of_a_type : (server 0x10).kind ≢ every_service
of_a_type e = absurd (omega (arith, e))
