-- Two routers on one segment. A host on 10h announces a file server. The first router has it then, one hop away as it was said, and the second
-- one two hops away.
use Rattle.std.proofs.Common.{◌≡◌, refl, ℕ, false, List, [], ◌∷◌, map, inl, arith}
use Rattle.ipx_wire.specs.Address.{address_bytes, address_at}
use Rattle.ipx_wire.specs.Crossed.{network_bytes, network_at}
use Rattle.ipx_wire.specs.Header.{header_bytes, header_at}
use Rattle.ipx_wire.specs.Items.{items}
use Rattle.ipx_wire.specs.Name.{name_field, name_of}
use Rattle.ipx_wire.specs.Packet.{packet_of}
use Rattle.ipx_wire.specs.Rip.{entry_bytes, entry_at, rip_of}
use Rattle.ipx_wire.specs.Sap.{sap_of}
use Rattle.ipx_wire.specs.SapEntries.{sap_entry_at}
use Rattle.ipx_wire.specs.WriteServices.{service_bytes, entry_of, sap_packet}
use Rattle.ipx_wire.specs.declared.sap.Sap.TheVariants.{Response}
use Rattle.ipx_wire.specs.declared.service.Service.{Service}
use Rattle.ipx_router.specs.Facts.{services_held, offers}
use Rattle.ipx_router.specs.Heard.{HeardSap}
use Rattle.ipx_router.specs.History.{Start, Second, Packet}
use Rattle.ipx_router.specs.Port.{own_services, every_server}
use Rattle.ipx_internet.specs.Internet.{ports_of}
use Rattle.ipx_internet.specs.Queue.{history_of}
use Rattle.ipx_internet.specs.Run.{Step, Happens, Settles, Run, begun, run_of}
use Rattle.ipx_internet.proofs.examples.Waiting.{segment}
use Rattle.ipx_internet.proofs.examples.Words.{network, node, port_on}
use Rattle.ipx_laws.specs.Announces.{IsAccepted, IsSaid, IsAnnounced}

-- a file server, that many hops away
abbrev pub server : ℕ → Service
server hops = record {
  kind = 4;
  name = 0x46 ∷ [];
  address = record { network = network 0x10; node = node 0xAA; socket = record { 0 = 0x451 } };
  hops = hops;
}

abbrev pub announcement : List ℕ
announcement = sap_packet (own_services (port_on 0x10 0xAA)) (every_server (port_on 0x10 0xAA)) false (server 1 ∷ [])

abbrev pub tick : List Step
tick = Happens 0 Second ∷ Happens 0 (Packet 0 announcement) ∷ Happens 1 Second ∷ Settles ∷ []

-- both routers run
abbrev start : Run
start = begun ((Start ∷ []) ∷ (Start ∷ []) ∷ [])

abbrev after : Run
after = run_of segment 8 8 start tick

abbrev hops_of : ℕ → List ℕ
hops_of router = map (λ s. s.service.hops) (offers (services_held (ports_of segment router) 8 (history_of after.histories router)))

pub have : hops_of 0 ∷ hops_of 1 ∷ [] ≡ (1 ∷ []) ∷ (2 ∷ []) ∷ []
unfolding header_bytes address_bytes network_bytes service_bytes name_field packet_of header_at address_at items network_at entry_bytes entry_at rip_of sap_of sap_entry_at name_of
have = refl

pub quiet : after.waiting ≡ []
unfolding header_bytes address_bytes network_bytes service_bytes name_field packet_of header_at address_at items network_at entry_bytes entry_at rip_of sap_of sap_entry_at name_of
quiet = refl

-- it was said so, as the second step of the tick, and the first router heard it
pub is_said : IsSaid segment 8 8 start (tick ∷ []) (server 1)
unfolding header_bytes address_bytes network_bytes service_bytes name_field packet_of header_at address_at items network_at entry_bytes entry_at rip_of sap_of sap_entry_at name_of
is_said = record {
  before = [];
  tick = tick;
  after = [];
  of_ticks = refl;
  earlier = Happens 0 Second ∷ [];
  router = 0;
  number = 0;
  bytes = announcement;
  later = Happens 1 Second ∷ Settles ∷ [];
  of_tick = refl;
  accepted = inl (HeardSap (own_services (port_on 0x10 0xAA)) (Response false (entry_of (server 1) ∷ [])), refl);
  message = HeardSap (own_services (port_on 0x10 0xAA)) (Response false (entry_of (server 1) ∷ []));
  heard = refl;
  which_entry = 0;
  says = refl;
}

-- a router that is stopped accepts nothing: what comes to it says nothing
pub dropped : IsAccepted (ports_of segment 0) 8 8 [] 0 announcement → ⊥
dropped given = grind arith

-- so it is announced as the second router has it
pub is_announced : IsAnnounced segment 8 8 start (tick ∷ []) (server 2)
is_announced = record { hops = 1; no_more = omega arith; said = is_said }
