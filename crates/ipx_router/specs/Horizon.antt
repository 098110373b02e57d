-- Split horizon (IPX Router Specification, split horizon), read from the bytes that are sent: no entry goes to where the route to
-- its network was learned.
use Rattle.std.specs.Prelude.{◌≡◌, ◌≢◌, ℕ, List}
use Rattle.std.specs.List.{AllByRecursion}
use Rattle.ipx_wire.specs.Numbers.{rip_type}
use Rattle.ipx_wire.specs.Packet.{Parts, IsPacket}
use Rattle.ipx_wire.specs.Rip.{RipParts, IsRip}
use Rattle.ipx_wire.specs.declared.rip.RipEntry.{RipEntry}
use Rattle.ipx_router.specs.declared.route_offer.RouteOffer.{RouteOffer}

-- the entries that are read from bytes, where they are a packet of routing information that came through no router, are all such
abbrev pub EachEntryReadIs : (RipEntry → Type 0) → List ℕ → Type 0
EachEntryReadIs P bytes =
    (p : Parts) (said : RipParts) → IsPacket bytes p → p.header.kind ≡ rip_type → p.header.control ≡ 0 → IsRip p.payload said
    → AllByRecursion P said.entries

-- none of the routes to the network that an entry names was learned on that port
abbrev pub IsFromElsewhere : List RouteOffer → ℕ → RipEntry → Type 0
IsFromElsewhere routes port entry = AllByRecursion (λ r. r.network ≡ entry.network → r.port ≢ port) routes
