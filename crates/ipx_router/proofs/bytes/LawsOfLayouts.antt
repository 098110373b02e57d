-- What the layouts of the packets are used for here: the laws of their crate, gathered by those who call them.
use Rattle.std.proofs.Common.{◌≡◌, ap, subst, ◌↔◌, ℕ, ◌<◌, ◌≤◌, ◌^◌, length, take, replicate, Bool, List, [], ◌++◌, map, Ok, arith}
use Rattle.std.specs.List.{AllByRecursion}
use Rattle.std.proofs.lemmas.List.{append-nil, length-append, length-take, length-replicate}
use Rattle.ipx_wire.specs.Address.{IsAddress}
use Rattle.ipx_wire.specs.Crossed.{IsNetwork}
use Rattle.ipx_wire.specs.Forward.{forwarded, propagated}
use Rattle.ipx_wire.specs.Numbers.{most_entries, most_services, crossed_places, crossed_bytes}
use Rattle.ipx_wire.specs.Packet.{Parts, IsPacket, packet_of}
use Rattle.ipx_wire.specs.Piece.{IsBytes}
use Rattle.ipx_wire.specs.Rip.{RipParts, IsEntry, IsRip, rip_of}
use Rattle.ipx_wire.specs.Sap.{IsSap, sap_of}
use Rattle.ipx_wire.specs.Write.{packet_bytes, rip_packet, rip_packet_parts, rip_payload, query_packet, query_packet_parts, query_payload}
use Rattle.ipx_wire.specs.WriteServices.{IsService, entry_of, sap_packet, sap_packet_parts, sap_payload}
use Rattle.ipx_wire.specs.declared.address.Address.{Address}
use Rattle.ipx_wire.specs.declared.network.Network.{Network}
use Rattle.ipx_wire.specs.declared.rip.Operation.{Operation}
use Rattle.ipx_wire.specs.declared.rip.RipEntry.{RipEntry}
use Rattle.ipx_wire.specs.declared.sap.Sap.{Sap}
use Rattle.ipx_wire.specs.declared.sap.Sap.TheVariants.{Query, Response}
use Rattle.ipx_wire.specs.declared.service.Service.{Service}

-- what was read is what the layouts say
pub record Readings : Type 0 where
  pub packet_read : (bytes : List ℕ) (p : Parts) → IsBytes bytes → (packet_of bytes ≡ Ok p ↔ IsPacket bytes p)
  pub packet_front : (bytes : List ℕ) (p : Parts) → IsPacket bytes p → packet_bytes p ≡ take p.header.length bytes
  pub rip_read : (payload : List ℕ) (r : RipParts) → IsBytes payload → (rip_of payload ≡ Ok r ↔ IsRip payload r)
  pub sap_read : (payload : List ℕ) (s : Sap) → IsBytes payload → (sap_of payload ≡ Ok s ↔ IsSap payload s)

-- what was written is read again
pub record Rereadings : Type 0 where
  pub rip_packet_again : (from to : Address) (operation : Operation) (entries : List RipEntry) (further : List ℕ) → IsAddress from → IsAddress to
      → length entries ≤ most_entries → IsPacket (rip_packet from to operation entries ++ further) (rip_packet_parts from to operation entries)
  pub rip_again : (operation : Operation) (entries : List RipEntry) (further : List ℕ) → AllByRecursion IsEntry entries
      → 1 ≤ length entries → length entries ≤ most_entries
      → length further < 8 → IsRip (rip_payload operation entries ++ further) (record { operation = operation; entries = entries })
  pub query_packet_again : (from to : Address) (nearest : Bool) (kind : ℕ) (further : List ℕ) → IsAddress from → IsAddress to
      → IsPacket (query_packet from to nearest kind ++ further) (query_packet_parts from to nearest kind)
  pub query_again : (nearest : Bool) (kind : ℕ) (further : List ℕ) → kind < 2 ^ 16 → IsSap (query_payload nearest kind ++ further) (Query nearest kind)
  pub sap_packet_again : (from to : Address) (nearest : Bool) (services : List Service) (further : List ℕ) → IsAddress from → IsAddress to
      → length services ≤ most_services → AllByRecursion IsService services
      → IsPacket (sap_packet from to nearest services ++ further) (sap_packet_parts from to nearest services)
  pub sap_again : (nearest : Bool) (services : List Service) (further : List ℕ) → 1 ≤ length services → length services ≤ most_services → AllByRecursion IsService services
      → length further < 64 → IsSap (sap_payload nearest services ++ further) (Response nearest (map entry_of services))
  pub forwarded_again : (bytes : List ℕ) (p : Parts) (further : List ℕ) → IsPacket bytes p → p.header.control < 255
      → IsPacket (packet_bytes (forwarded p) ++ further) (forwarded p)
  pub propagated_again : (bytes : List ℕ) (p : Parts) (arrived outgoing : Network) (further : List ℕ) → IsPacket bytes p → p.header.control < crossed_places
      → crossed_bytes ≤ length p.payload → IsNetwork outgoing → IsPacket (packet_bytes (propagated arrived outgoing p) ++ further) (propagated arrived outgoing p)

-- what is a packet whatever bytes follow has as many bytes as its length says
pub whole : (readings : Readings) (p : Parts) → ((further : List ℕ) → IsPacket (packet_bytes p ++ further) p) → length (packet_bytes p) ≡ p.header.length
whole readings p is =
    let n = p.header.length in
    let bytes = packet_bytes p in
    let filler : ℕ = 0 in
    let zeros = replicate n filler in
    let front : length bytes ≡ length (take n (bytes ++ zeros)) = ap length (readings.packet_front (bytes ++ zeros) p (is zeros)) in
    omega (arith, front, length-take n (bytes ++ zeros), length-append bytes zeros, length-replicate n filler)

-- also where none follow
pub alone : (p : Parts) → ((further : List ℕ) → IsPacket (packet_bytes p ++ further) p) → IsPacket (packet_bytes p) p
alone p is = subst (λ bytes. IsPacket bytes p) (append-nil (packet_bytes p)) (is [])
