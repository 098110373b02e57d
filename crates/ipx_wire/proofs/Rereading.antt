-- What was written is read again, whatever bytes follow.
use Rattle.std.proofs.lemmas.Grind.{common_steps}
use Rattle.std.proofs.Common.{◌≡◌, ℕ, ◌+◌, ◌-◌, ◌*◌, ◌<◌, ◌≤◌, Bool, List, [], ◌∷◌, ◌++◌, length, take, drop, refl, sym, ap, ◌∙◌, arith, append_assoc, length-append, length-drop, length-take, lit<}
use Rattle.std.proofs.lemmas.List.{take_at, take-append-drop, flat_map_more}
use Rattle.std.specs.List.{flat_map, AllByRecursion}
use Rattle.ipx_wire.specs.Address.{IsAddress}
use Rattle.ipx_wire.specs.Header.{IsHeader, header_bytes}
use Rattle.ipx_wire.specs.Numbers.{most_entries}
use Rattle.ipx_wire.specs.Packet.{Parts, IsPacket}
use Rattle.ipx_wire.specs.Rip.{IsEntry, IsRip}
use Rattle.ipx_wire.specs.Crossed.{IsNetwork, IsCrossed, network_bytes}
use Rattle.ipx_wire.specs.Forward.{forwarded, crossing, propagated}
use Rattle.ipx_wire.specs.Write.{packet_bytes, rip_payload, rip_packet, rip_packet_parts, query_packet, query_packet_parts}
use Rattle.ipx_wire.specs.declared.address.Address.{Address}
use Rattle.ipx_wire.specs.declared.header.Header.{Header}
use Rattle.ipx_wire.specs.declared.network.Network.{Network}
use Rattle.ipx_wire.specs.declared.rip.Operation.{Operation}
use Rattle.ipx_wire.specs.declared.rip.RipEntry.{RipEntry}
use Rattle.ipx_wire.proofs.Crossings.{length-network_bytes, length-networks}
use Rattle.ipx_wire.proofs.Headers.{length-header_bytes}
use Rattle.ipx_wire.proofs.Written.{own_ranges, length-rip_payload}

-- a packet's bytes are read as that packet
pub packet_again : (p : Parts) (further : List ℕ) → IsHeader p.header → p.header.length ≡ 30 + length p.payload → IsPacket (packet_bytes p ++ further) p
packet_again p further header counted = record { header = header; padding = further; layout = refl; counted = counted }

-- a header's bytes are read as a packet with that header, where as many bytes are there as it counts
pub header_alone : (h : Header) (further : List ℕ) → IsHeader h → 30 ≤ h.length → h.length ≤ length (header_bytes h ++ further)
    → IsPacket (header_bytes h ++ further) (record { header = h; payload = take (h.length - 30) further })
header_alone h further is long there =
    let size = length-header_bytes h is.destination.node is.source.node in
    let all = length-append (header_bytes h) further in
    record {
      header = is;
      padding = drop (h.length - 30) further;
      layout =
          sym (append_assoc (header_bytes h) (take (h.length - 30) further) (drop (h.length - 30) further)
          ∙ ap (λ (x : List ℕ). header_bytes h ++ x) (take-append-drop (h.length - 30) further));
      counted = omega (arith, size, all, length-take (h.length - 30) further);
    }

-- a routing information packet's bytes are read as that packet
pub rip_packet_again : (from to : Address) (operation : Operation) (entries : List RipEntry) (further : List ℕ) → IsAddress from → IsAddress to
    → length entries ≤ most_entries → IsPacket (rip_packet from to operation entries ++ further) (rip_packet_parts from to operation entries)
rip_packet_again from to operation entries further from_is to_is most =
    let size : (rip_packet_parts from to operation entries).header.length ≡ 30 + length (rip_payload operation entries) =
    omega (arith, length-rip_payload operation entries) in
    packet_again (rip_packet_parts from to operation entries) further
    (own_ranges 1 from to (2 + 8 * length entries) (lit< tt) from_is to_is (omega arith)) size

-- its data are read as its operation and entries
pub rip_again : (operation : Operation) (entries : List RipEntry) (further : List ℕ) → AllByRecursion IsEntry entries → 1 ≤ length entries → length entries ≤ most_entries
    → length further < 8 → IsRip (rip_payload operation entries ++ further) (record { operation = operation; entries = entries })
rip_again operation entries further ranges some most few = grind arith

-- a query's bytes are read as that packet
pub query_packet_again : (from to : Address) (nearest : Bool) (kind : ℕ) (further : List ℕ) → IsAddress from → IsAddress to
    → IsPacket (query_packet from to nearest kind ++ further) (query_packet_parts from to nearest kind)
query_packet_again from to nearest kind further from_is to_is = grind arith

-- a forwarded packet is read as that packet
pub forwarded_again : (bytes : List ℕ) (p : Parts) (further : List ℕ) → IsPacket bytes p → p.header.control < 255
    → IsPacket (packet_bytes (forwarded p) ++ further) (forwarded p)
forwarded_again bytes p further is below = grind arith

-- one network in a place of the data changes nothing of their length
pub length-crossing : (control : ℕ) (network : Network) (payload : List ℕ) → control < 8 → 32 ≤ length payload
    → length (crossing control network payload) ≡ length payload
length-crossing control network payload free eight = grind (arith, length-append, length-network_bytes, length-take, length-drop)

-- a propagated packet is read as that packet
pub propagated_again : (bytes : List ℕ) (p : Parts) (arrived outgoing : Network) (further : List ℕ) → IsPacket bytes p → p.header.control < 8
    → 32 ≤ length p.payload → IsNetwork outgoing → IsPacket (packet_bytes (propagated arrived outgoing p) ++ further) (propagated arrived outgoing p)
propagated_again bytes p arrived outgoing further is free eight fits = grind (arith, packet_again, length-crossing)

-- one network more is in range too
all_more : (ns : List Network) (n : Network) → AllByRecursion IsNetwork ns → IsNetwork n → AllByRecursion IsNetwork (ns ++ n ∷ [])
all_more ns n are is = grind (arith, common_steps)

-- the networks crossed are those that were there, and the one that was written
pub crossed_again : (control : ℕ) (payload : List ℕ) (networks : List Network) (arrived : Network) → IsCrossed control payload networks
    → control + 1 < 8 → IsNetwork arrived → IsCrossed (control + 1) (crossing control arrived payload) (networks ++ arrived ∷ [])
crossed_again control payload networks arrived is below fits =
    let eight = is.eight in
    let counted = is.listed in
    let free = is.free in
    let size : length (flat_map network_bytes networks) ≡ 4 * control = omega (arith, length-networks networks, counted) in
    let front : take (4 * control) payload ≡ flat_map network_bytes networks =
    ap (take (4 * control)) is.layout ∙ take_at (flat_map network_bytes networks) is.further (4 * control) size in
    record {
      further = drop (4 * control + 4) payload;
      layout =
          ap (λ (x : List ℕ). x ++ network_bytes arrived ++ drop (4 * control + 4) payload) front
          ∙ ap (λ (x : List ℕ). x ++ drop (4 * control + 4) payload) (flat_map_more network_bytes [] networks arrived);
      listed = omega (arith, length-append networks (arrived ∷ []), counted);
      free = below;
      eight = omega (arith, eight, length-crossing control arrived payload free eight);
      ranges = all_more networks arrived is.ranges fits;
    }
