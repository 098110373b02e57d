-- Tables need room for all services that hosts name, as the laws of services ask. On 10h of the segment of `Hosts` another host announces
-- another file server, and is heard first. With tables of one service the second server is known to neither router, though both have a way to
-- it; with tables of two it is known to both.
use Rattle.std.proofs.Common.{◌≡◌, refl, ℕ, false, List, [], ◌∷◌, ◌++◌, replicate, map, arith}
use Rattle.ipx_wire.specs.Address.{address_bytes, address_at}
use Rattle.ipx_wire.specs.Crossed.{network_bytes, network_at}
use Rattle.ipx_wire.specs.Header.{header_bytes, header_at}
use Rattle.ipx_wire.specs.Items.{items}
use Rattle.ipx_wire.specs.Name.{name_field, name_of}
use Rattle.ipx_wire.specs.Packet.{packet_of}
use Rattle.ipx_wire.specs.Rip.{entry_bytes, entry_at, rip_of}
use Rattle.ipx_wire.specs.Sap.{sap_of}
use Rattle.ipx_wire.specs.SapEntries.{sap_entry_at}
use Rattle.ipx_wire.specs.WriteServices.{service_bytes, sap_packet}
use Rattle.ipx_router.specs.Facts.{services_held, offers}
use Rattle.ipx_router.specs.History.{Second, Packet}
use Rattle.ipx_router.specs.Port.{own_services, every_server}
use Rattle.ipx_internet.specs.Internet.{ports_of}
use Rattle.ipx_internet.specs.Queue.{history_of}
use Rattle.ipx_internet.specs.Run.{Step, Happens, Settles, Run, run_of}
use Rattle.ipx_internet.proofs.examples.Waiting.{segment}
use Rattle.ipx_internet.proofs.examples.Words.{port_on}
use Rattle.ipx_laws.specs.Regular.{HasRoomFor}
use Rattle.ipx_laws.specs.Servers.{at_hops}
use Rattle.ipx_laws.proofs.examples.Hosts.{server, said, start, names}

-- another file server, announced by another host
abbrev said_first : List ℕ
said_first =
    sap_packet (own_services (port_on 0x10 0xBB)) (every_server (port_on 0x10 0xBB)) false (record (at_hops (server 0x10) 1) { name = 0x47 ∷ [] } ∷ [])

abbrev both : List (ℕ × List ℕ)
both = (4, 0x47 ∷ []) ∷ names

abbrev tick : List Step
tick = Happens 0 Second ∷ Happens 1 Second ∷ Happens 0 (Packet 0 said_first) ∷ Happens 0 (Packet 0 (said 0x10)) ∷ replicate 2 Settles

abbrev after : ℕ → Run
after most_services = run_of segment 8 most_services start tick

-- the names and hops of what a router has then
abbrev known : ℕ → ℕ → List (List ℕ × ℕ)
known most_services router =
    map (λ s. (s.service.name, s.service.hops))
    (offers (services_held (ports_of segment router) most_services (history_of (after most_services).histories router)))

pub no_room : HasRoomFor segment 1 both → ⊥
no_room room = let two = room.table in omega (arith, two)

pub one_is_known : known 1 0 ∷ known 1 1 ∷ [] ≡ ((0x47 ∷ [], 1) ∷ []) ∷ ((0x47 ∷ [], 2) ∷ []) ∷ []
unfolding header_bytes address_bytes network_bytes service_bytes name_field packet_of header_at address_at items network_at entry_bytes entry_at rip_of sap_of sap_entry_at name_of
one_is_known = refl

pub room : HasRoomFor segment 2 both
room = record { table = omega arith; shares = (((omega arith), ((omega arith), tt)), ((((omega arith), ((omega arith), tt)), tt))) }

pub both_are_known : known 2 0 ∷ known 2 1 ∷ []
    ≡ ((0x46 ∷ [], 1) ∷ (0x47 ∷ [], 1) ∷ []) ∷ ((0x46 ∷ [], 2) ∷ (0x47 ∷ [], 2) ∷ []) ∷ []
unfolding header_bytes address_bytes network_bytes service_bytes name_field packet_of header_at address_at items network_at entry_bytes entry_at rip_of sap_of sap_entry_at name_of
both_are_known = refl

pub quiet : (after 1).waiting ++ (after 2).waiting ≡ []
unfolding header_bytes address_bytes network_bytes service_bytes name_field packet_of header_at address_at items network_at entry_bytes entry_at rip_of sap_of sap_entry_at name_of
quiet = refl
