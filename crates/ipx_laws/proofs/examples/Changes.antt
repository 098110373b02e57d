-- The two routers on one segment of `Waiting`, each with a route to the other's network: the segment is lost at both ends, and both routes are gone
-- at once; it comes up again at both ends, and when what they sent was handed out both routes are there again.
use Rattle.std.proofs.Common.{◌≡◌, refl, lit<, zero, suc, true, List, [], ◌∷◌, replicate, None, Option, option_map, arith}
use Rattle.std.specs.List.{AllByRecursion}
use Rattle.ipx_wire.specs.Address.{address_bytes, address_at}
use Rattle.ipx_wire.specs.Crossed.{network_bytes, network_at, is_among}
use Rattle.ipx_wire.specs.Items.{items}
use Rattle.ipx_wire.specs.Header.{header_bytes, header_at}
use Rattle.ipx_wire.specs.Packet.{packet_of}
use Rattle.ipx_wire.specs.Rip.{entry_bytes, entry_at, rip_of}
use Rattle.ipx_wire.specs.Sap.{sap_of}
use Rattle.ipx_router.specs.History.{PortDown, PortUp}
use Rattle.ipx_router.specs.Outgoing.{route_to}
use Rattle.ipx_internet.specs.Run.{Step, Happens, Settles, Run, begun, run_of}
use Rattle.ipx_internet.proofs.examples.Waiting.{segment, after}
use Rattle.ipx_internet.proofs.examples.Words.{network, at}
use Rattle.ipx_laws.specs.Gains.{IsOfGains}
use Rattle.ipx_laws.specs.Gone.{IsGone}
use Rattle.ipx_laws.specs.Least.{Way, least_route, way_of}
use Rattle.ipx_laws.specs.Losses.{AreLosses}
use Rattle.ipx_laws.specs.Real.{next}
use Rattle.ipx_laws.specs.Tables.{routes_of, AreReal}
use Rattle.ipx_laws.specs.Ups.{ups, networks_up}
use Rattle.ipx_laws.proofs.examples.Leasts.{way}

-- hops and ticks of each router's route to the other's network
abbrev known : Run → List (Option Way)
known run =
    option_map way_of (route_to (routes_of segment 8 run.histories 0) 0x30) ∷ option_map way_of (route_to (routes_of segment 8 run.histories 1) 0x10) ∷ []

abbrev should : Run → List (Option Way)
should run = least_route segment (ups segment run.histories) 0 (network 0x30) ∷ least_route segment (ups segment run.histories) 1 (network 0x10) ∷ []

-- ---- before

-- both routes are of real ways: each neighbour has the network on its other port
pub both_real : AreReal segment 8 (after 8).histories (ups segment (after 8).histories)
unfolding header_bytes address_bytes network_bytes packet_of header_at address_at items network_at entry_bytes entry_at rip_of sap_of
both_real zero inside = (
  next (at 1 0) 1 refl (λ (e : 1 ≡ 0). omega (arith, e))
      (record { other = λ (e : 0 ≡ 1). omega (arith, e); here = refl; there = refl; network = refl; wanted = refl; offer = refl }),
  tt,
)
both_real (suc zero) inside = (
  next (at 0 1) 0 refl (λ (e : 0 ≡ 1). omega (arith, e))
      (record { other = λ (e : 1 ≡ 0). omega (arith, e); here = refl; there = refl; network = refl; wanted = refl; offer = refl }),
  tt,
)
both_real (suc (suc router)) inside = absurd (omega (arith, inside))

-- ---- the segment is lost

abbrev cut : List Step
cut = Happens 0 (PortDown 1) ∷ Happens 1 (PortDown 0) ∷ []

abbrev pub lost : Run
lost = run_of segment 8 8 (begun (after 8).histories) cut

segment_gone : IsGone segment lost.histories (network 0x20)
unfolding header_bytes address_bytes network_bytes packet_of header_at address_at items network_at entry_bytes entry_at rip_of sap_of
segment_gone zero = refl
segment_gone (suc zero) = refl
segment_gone (suc (suc router)) = refl

nothing_waits : lost.waiting ≡ []
unfolding header_bytes address_bytes network_bytes packet_of header_at address_at items network_at entry_bytes entry_at rip_of sap_of
nothing_waits = refl

pub are_losses : AreLosses segment 8 8 (after 8).histories cut
are_losses = record { losses = ((lit< tt, (lit< tt, segment_gone)), ((lit< tt, (lit< tt, segment_gone)), tt)); quiet = nothing_waits }

-- no route is left, and none should be
pub both_gone : known lost ≡ None ∷ None ∷ []
unfolding header_bytes address_bytes network_bytes packet_of header_at address_at items network_at entry_bytes entry_at rip_of sap_of
both_gone = refl

pub none_should : should lost ≡ None ∷ None ∷ []
unfolding header_bytes address_bytes network_bytes packet_of header_at address_at items network_at entry_bytes entry_at rip_of sap_of
none_should = refl

-- at one end alone it is no loss: the other port is up, and its router still has its route
abbrev one_end : Run
one_end = run_of segment 8 8 (begun (after 8).histories) (Happens 0 (PortDown 1) ∷ [])

pub not_gone : is_among (network 0x20) (networks_up segment one_end.histories 1) ≡ true
unfolding header_bytes address_bytes network_bytes packet_of header_at address_at items network_at entry_bytes entry_at rip_of sap_of
not_gone = refl

pub still_there : known one_end ≡ None ∷ way 1 2 ∷ []
unfolding header_bytes address_bytes network_bytes packet_of header_at address_at items network_at entry_bytes entry_at rip_of sap_of
still_there = refl

-- ---- the segment is back

abbrev mended : List Step
mended = Happens 0 (PortUp 1) ∷ Happens 1 (PortUp 0) ∷ replicate 8 Settles

pub are_gains : AllByRecursion (IsOfGains segment) mended
are_gains = ((lit< tt, lit< tt), ((lit< tt, lit< tt), (tt, (tt, (tt, (tt, (tt, (tt, (tt, (tt, tt))))))))))

abbrev back : Run
back = run_of segment 8 8 (begun lost.histories) mended

pub quiet_again : back.waiting ≡ []
unfolding header_bytes address_bytes network_bytes packet_of header_at address_at items network_at entry_bytes entry_at rip_of sap_of
quiet_again = refl

pub both_back : known back ≡ way 1 2 ∷ way 1 2 ∷ []
unfolding header_bytes address_bytes network_bytes packet_of header_at address_at items network_at entry_bytes entry_at rip_of sap_of
both_back = refl
