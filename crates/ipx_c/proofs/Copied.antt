-- Whether a packet is copied, asked socket by socket; and that it has a header then.
use Rattle.std.proofs.Common.{◌≡◌, refl, ℕ, ◌≤◌, ◌==◌, Bool, true, false, ◌&&◌, ◌||◌, not, if◌then◌else◌, List, [], ◌∷◌, length, map, Result, Ok, Err, arith}
use Rattle.std.specs.List.{list_any}
use Rattle.ipx_wire.specs.Packet.{Parts, packet_of}
use Rattle.ipx_wire.specs.Numbers.{propagated_type}
use Rattle.ipx_wire.specs.declared.network.Network.{Network}
use Rattle.ipx_wire.specs.declared.packet.PacketFault.{PacketFault}
use Rattle.ipx_wire.specs.declared.socket.Socket.{Socket}
use Rattle.ipx_tunnel.specs.Places.{is_here, same_node, broadcast}
use Rattle.ipx_tunnel.specs.Extend.{is_extended_in, is_extended}
use Rattle.ipx_c.specs.Extends.{socket_of}

-- ---- socket by socket

-- the sockets stand among four other tests
spread : (a b c e : Bool) (n : ℕ) (sockets : List ℕ)
    → list_any (λ s. a && b && c && ((s == n) || false) && e) sockets ≡ (a && b && c && list_any (λ (s : Socket). s.0 == n) (map socket_of sockets) && e)
spread true true true e n [] = refl
spread true true true e n (s ∷ sockets) = grind (arith, spread true true true e n sockets)
spread true true false e n [] = refl
spread true true false e n (s ∷ sockets) = spread true true false e n sockets
spread true false c e n [] = refl
spread true false c e n (s ∷ sockets) = spread true false c e n sockets
spread false b c e n [] = refl
spread false b c e n (s ∷ sockets) = spread false b c e n sockets

by_one : (network : Network) (sockets : List ℕ) (r : Result Parts PacketFault)
    → list_any (λ s. is_extended_in network (socket_of s ∷ []) r) sockets ≡ is_extended_in network (map socket_of sockets) r
by_one network [] (Err fault) = refl
by_one network (s ∷ sockets) (Err fault) = by_one network sockets (Err fault)
by_one network sockets (Ok packet) =
    let h = packet.header in
    spread (same_node h.destination.node broadcast) (is_here network h.destination.network) (h.source.network.0 == network.0)
    (not (h.kind == propagated_type)) h.destination.socket.0 sockets

pub named_by_one : (network : Network) (sockets bytes : List ℕ)
    → list_any (λ s. is_extended network (socket_of s ∷ []) bytes) sockets ≡ is_extended network (map socket_of sockets) bytes
named_by_one network sockets bytes = by_one network sockets (packet_of bytes)

-- ---- a header

pub has_header : (network : Network) (sockets : List Socket) (bytes : List ℕ) → is_extended network sockets bytes ≡ true → 30 ≤ length bytes
unfolding packet_of
has_header network sockets bytes is = grind arith

-- ---- what C has then

pub picked : (is : Bool) (copy bytes new : List ℕ) → is ≡ true → new ≡ copy → new ≡ (if is then copy else bytes)
picked is copy bytes new so same = grind arith

pub kept : (is : Bool) (copy bytes : List ℕ) → is ≡ false → bytes ≡ (if is then copy else bytes)
kept is copy bytes so = grind arith
