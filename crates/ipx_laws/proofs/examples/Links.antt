-- Two routers on one segment, as of `Waiting`, whose tables are right. The segment is lost, and both notice; then it comes back, and the tables
-- are right at once.
use Rattle.std.proofs.Common.{◌≡◌, refl, ℕ, [], ◌∷◌, length, replicate, None, Option, option_map}
use Rattle.ipx_wire.specs.Address.{address_bytes, address_at}
use Rattle.ipx_wire.specs.Crossed.{network_bytes, network_at}
use Rattle.ipx_wire.specs.Items.{items}
use Rattle.ipx_wire.specs.Header.{header_bytes, header_at}
use Rattle.ipx_wire.specs.Packet.{packet_of}
use Rattle.ipx_wire.specs.Rip.{entry_bytes, entry_at, rip_of}
use Rattle.ipx_wire.specs.Sap.{sap_of}
use Rattle.ipx_router.specs.Facts.{routes_held, offers}
use Rattle.ipx_router.specs.History.{PortDown, PortUp}
use Rattle.ipx_router.specs.Outgoing.{route_to}
use Rattle.ipx_internet.specs.Internet.{ports_of}
use Rattle.ipx_internet.specs.Queue.{history_of}
use Rattle.ipx_internet.specs.Run.{Happens, Settles, Run, begun, run_of}
use Rattle.ipx_internet.proofs.examples.Waiting.{segment, after}
use Rattle.ipx_internet.proofs.examples.Words.{network}
use Rattle.ipx_laws.specs.Least.{Way, least_route, way_of}
use Rattle.ipx_laws.specs.Ups.{ups}
use Rattle.ipx_laws.proofs.examples.Leasts.{way}

abbrev lost : Run
lost = run_of segment 8 8 (begun (after 8).histories) (Happens 0 (PortDown 1) ∷ Happens 1 (PortDown 0) ∷ [])

abbrev back : Run
back = run_of segment 8 8 lost (Happens 0 (PortUp 1) ∷ Happens 1 (PortUp 0) ∷ replicate 8 Settles)

-- hops and ticks of each one's route to the other's network, and those of the least way
abbrev known : Run → ℕ → ℕ → Option Way
known run router n = option_map way_of (route_to (offers (routes_held (ports_of segment router) 8 (history_of run.histories router))) n)

abbrev should : Run → ℕ → ℕ → Option Way
should run router n = least_route segment (ups segment run.histories) router (network n)

pub none_left : known lost 0 0x30 ∷ known lost 1 0x10 ∷ should lost 0 0x30 ∷ should lost 1 0x10 ∷ [] ≡ None ∷ None ∷ None ∷ None ∷ []
unfolding header_bytes address_bytes network_bytes packet_of header_at address_at items network_at entry_bytes entry_at rip_of sap_of
none_left = refl

pub right_at_once : known back 0 0x30 ∷ known back 1 0x10 ∷ should back 0 0x30 ∷ should back 1 0x10 ∷ [] ≡ way 1 2 ∷ way 1 2 ∷ way 1 2 ∷ way 1 2 ∷ []
unfolding header_bytes address_bytes network_bytes packet_of header_at address_at items network_at entry_bytes entry_at rip_of sap_of
right_at_once = refl

pub quiet : length lost.waiting ∷ length back.waiting ∷ [] ≡ 0 ∷ 0 ∷ []
unfolding header_bytes address_bytes network_bytes packet_of header_at address_at items network_at entry_bytes entry_at rip_of sap_of
quiet = refl
