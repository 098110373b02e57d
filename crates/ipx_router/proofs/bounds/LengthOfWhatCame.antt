-- How long a packet is beside the bytes that it was read from.
use Rattle.std.proofs.Common.{◌≡◌, refl, ℕ, ◌≤◌, List, length, arith}
use Rattle.std.proofs.lemmas.Bool.{ltb-false}
use Rattle.ipx_wire.specs.Header.{length_field, header_at}
use Rattle.ipx_wire.specs.Packet.{packet_of}
use Rattle.ipx_router.specs.Bounds.{most_length}
use Rattle.ipx_router.specs.History.{Packet}
use Rattle.ipx_router.specs.Numbers.{most_own_length}

pub field_of_header : (bytes : List ℕ) → (header_at bytes).length ≡ length_field bytes
unfolding header_at
field_of_header bytes = refl

-- the bytes that came are no more than the router's own longest packet has: nor has the packet, if they are one
pub most_of_few : (number : ℕ) (bytes : List ℕ) → length bytes ≤ most_own_length → most_length (Packet number bytes) ≡ most_own_length
unfolding packet_of
most_of_few number bytes few = grind (arith, field_of_header, ltb-false)
