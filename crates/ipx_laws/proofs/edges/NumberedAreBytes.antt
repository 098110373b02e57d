-- What an edge makes of bytes are bytes.
use Rattle.std.proofs.Common.{ℕ, zero, suc, ◌+◌, Bool, true, false, if◌then◌else◌, List, ◌++◌, take, drop, length, Result, Ok, Err}
use Rattle.std.specs.Int.{to_be_bytes, w16, w32}
use Rattle.ipx_wire.specs.Numbers.{no_checksum}
use Rattle.ipx_wire.specs.Packet.{Parts, packet_of}
use Rattle.ipx_wire.specs.Piece.{IsBytes}
use Rattle.ipx_wire.specs.declared.network.Network.{Network}
use Rattle.ipx_wire.specs.declared.packet.PacketFault.{PacketFault}
use Rattle.ipx_router.specs.Port.{Port}
use Rattle.ipx_router.proofs.bytes.ListsOfBytes.{bytes_taken, bytes_dropped, bytes_both, bytes_16, bytes_32}
use Rattle.ipx_edge.specs.Places.{checksum_place, source_place, service_place, with_at}
use Rattle.ipx_edge.specs.Numbered.{is_unnumbered, is_own_service, with_number, with_source, with_services, services_told, numbered_in, numbered}

changed : (place : ℕ) (new bytes : List ℕ) → IsBytes new → IsBytes bytes → IsBytes (with_at place new bytes)
unfolding with_at
changed place new bytes are_new are =
    bytes_both (take place bytes ++ new) (drop (place + length new) bytes)
    (bytes_both (take place bytes) new (bytes_taken place bytes are) are_new) (bytes_dropped (place + length new) bytes are)

with_its_number : (network : Network) (place : ℕ) (bytes : List ℕ) → IsBytes bytes → IsBytes (with_number network place bytes)
with_its_number network place bytes are =
    changed checksum_place (to_be_bytes w16 no_checksum) (with_at place (to_be_bytes w32 network.0) bytes) (bytes_16 no_checksum)
    (changed place (to_be_bytes w32 network.0) bytes (bytes_32 network.0) are)

one_of : (c : Bool) (xs ys : List ℕ) → IsBytes xs → IsBytes ys → IsBytes (if c then xs else ys)
one_of true xs ys are_xs are_ys = are_xs
one_of false xs ys are_xs are_ys = are_ys

module _ (port : Port) where
  the_source : (bytes : List ℕ) → IsBytes bytes → IsBytes (with_source port bytes)
  the_source bytes are =
      one_of (is_unnumbered source_place bytes) (with_number port.network source_place bytes) bytes (with_its_number port.network source_place bytes are) are

  the_services : (n : ℕ) (bytes : List ℕ) → IsBytes bytes → IsBytes (with_services port n bytes)
  the_services zero bytes are = are
  the_services (suc n) bytes are =
      let before = with_services port n bytes in
      let are_before = the_services n bytes are in
      one_of (is_own_service n before) (with_number port.network (service_place n) before) before
      (with_its_number port.network (service_place n) before are_before) are_before

  in_all : (r : Result Parts PacketFault) (bytes : List ℕ) → IsBytes bytes → IsBytes (numbered_in port r bytes)
  in_all (Ok p) bytes are = the_services (services_told port p) (with_source port bytes) (the_source bytes are)
  in_all (Err fault) bytes are = are

  pub numbered_are : (bytes : List ℕ) → IsBytes bytes → IsBytes (numbered port bytes)
  unfolding numbered
  numbered_are bytes are = in_all (packet_of bytes) bytes are
