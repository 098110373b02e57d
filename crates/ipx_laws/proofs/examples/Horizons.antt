-- Two routers on one segment tell each other their networks: what each advertises where, and which routes it holds then.
use Rattle.std.proofs.Common.{◌≡◌, refl, ℕ, List, [], ◌∷◌, map, Ok, Err, lit<}
use Rattle.ipx_wire.specs.Address.{address_bytes, address_at}
use Rattle.ipx_wire.specs.Crossed.{network_bytes, network_at}
use Rattle.ipx_wire.specs.Header.{header_bytes, header_at}
use Rattle.ipx_wire.specs.Items.{items}
use Rattle.ipx_wire.specs.Packet.{Parts, IsPacket, packet_of}
use Rattle.ipx_wire.specs.Rip.{RipParts, IsRip, entry_bytes, entry_at, rip_of}
use Rattle.ipx_wire.specs.Sap.{sap_of}
use Rattle.ipx_wire.specs.Write.{packet_bytes, rip_packet_parts}
use Rattle.ipx_wire.specs.declared.rip.Operation.TheVariants.{Response}
use Rattle.ipx_wire.specs.declared.rip.RipEntry.{RipEntry}
use Rattle.ipx_router.specs.History.{Start, Stop}
use Rattle.ipx_router.specs.Port.{broadcast, own_address, everyone}
use Rattle.ipx_router.specs.declared.route_offer.RouteOffer.{RouteOffer}
use Rattle.ipx_internet.specs.Internet.{Internet, Place}
use Rattle.ipx_internet.specs.Run.{Run, Step, Happens, Settles, begun, run_of}
use Rattle.ipx_internet.proofs.examples.Words.{network, port_on, route, at}
use Rattle.ipx_laws.specs.Departure.{Departure, ObservesHorizon, departures_in}

abbrev segment : Internet
segment = (port_on 0x10 1 ∷ port_on 0x20 2 ∷ []) ∷ (port_on 0x20 3 ∷ port_on 0x30 4 ∷ []) ∷ []

-- the entries that are read from a packet
abbrev entries_of : List ℕ → List RipEntry
entries_of bytes = elim (packet_of bytes) [ Ok p ↦ elim (rip_of p.payload) [ Ok rip ↦ rip.entries | Err fault ↦ [] ] | Err fault ↦ [] ]

-- a packet on a port that says this, by a router that holds these routes
record Said : Type 0 where
  from : Place
  entries : List RipEntry
  held : List RouteOffer

abbrev said : Departure → Said
said d = record { from = at d.router d.sent.port; entries = entries_of d.sent.bytes; held = d.routes }

-- both were started, and so many deliveries were handed out; then one step more
abbrev after : List Step → Run
after steps = run_of segment 8 8 (begun ([] ∷ [] ∷ [])) (Happens 0 Start ∷ Happens 1 Start ∷ steps)

abbrev then_said : List Step → Step → List Said
then_said steps step = map said (departures_in segment 8 8 (after steps) step)

abbrev entry : ℕ → ℕ → ℕ → RipEntry
entry n hops ticks = record { network = network n; hops = hops; ticks = ticks }

-- the second router hears of 10h on its first port, and tells it on the other one only
pub tells_of_it : then_said [] Settles ≡ record { from = at 1 1; entries = entry 0x10 2 3 ∷ []; held = route 0x10 0 2 ∷ [] } ∷ []
unfolding header_bytes address_bytes network_bytes packet_of header_at address_at items network_at entry_bytes entry_at rip_of sap_of
tells_of_it = refl

-- asked for all routes there, it answers with 30h alone
pub answers : then_said (Settles ∷ []) Settles ≡ record { from = at 1 0; entries = entry 0x30 1 2 ∷ []; held = route 0x10 0 2 ∷ [] } ∷ []
unfolding header_bytes address_bytes network_bytes packet_of header_at address_at items network_at entry_bytes entry_at rip_of sap_of
answers = refl

-- stopped, it holds nothing, and says so where it advertised
pub stops : then_said (Settles ∷ []) (Happens 1 Stop) ≡ record { from = at 1 0; entries = entry 0x30 16 65535 ∷ []; held = [] }
    ∷ record { from = at 1 1; entries = entry 0x10 16 65535 ∷ entry 0x20 16 65535 ∷ []; held = [] } ∷ []
unfolding header_bytes address_bytes network_bytes packet_of header_at address_at items network_at entry_bytes entry_at rip_of sap_of
stops = refl

-- ---- what never departs

-- such a response of the second router, on its first port
abbrev response : Parts
response = rip_packet_parts (own_address (port_on 0x20 3)) (everyone (port_on 0x20 3)) Response (entry 0x10 2 3 ∷ [])

-- it would go back to where the route that it is of was learned
pub goes_back : ObservesHorizon (record {
  router = 1;
  sent = record { port = 0; link = broadcast; bytes = packet_bytes response };
  routes = route 0x10 0 2 ∷ [];
}) → ⊥
unfolding header_bytes address_bytes entry_bytes
goes_back observes = (observes response said_there packet_is refl refl rip_is).0.0 refl refl
  where
    said_there : RipParts
    said_there = record { operation = Response; entries = entry 0x10 2 3 ∷ [] }

    packet_is : IsPacket (packet_bytes response) response
    packet_is = record {
      header = record {
        checksum = lit< tt;
        length = lit< tt;
        control = lit< tt;
        kind = lit< tt;
        destination = record { network = lit< tt; node = refl; socket = lit< tt };
        source = record { network = lit< tt; node = refl; socket = lit< tt };
      };
      padding = [];
      layout = refl;
      counted = refl;
    }

    rip_is : IsRip response.payload said_there
    rip_is = record {
      further = [];
      layout = refl;
      some = lit< tt;
      most = lit< tt;
      ignored = lit< tt;
      ranges = (record { network = lit< tt; hops = lit< tt; ticks = lit< tt }, tt);
    }
