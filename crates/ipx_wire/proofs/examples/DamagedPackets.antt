-- Bytes that are no packet, and why.
use Rattle.std.proofs.Common.{◌≡◌, [], ◌++◌, refl, codes, replicate, Err}
use Rattle.hex.specs.Hex.{decode_pairs}
use Rattle.ipx_wire.specs.Packet.{packet_of}
use Rattle.ipx_wire.specs.declared.packet.PacketFault.TheVariants.{Short, LengthSmall, LengthBeyond}
use Rattle.ipx_wire.proofs.examples.Words.{hex}

-- no bytes
pub nothing : packet_of [] ≡ Err Short
unfolding packet_of
nothing = refl

-- one byte less than a header
pub a_byte_less_than_a_header : packet_of (replicate 29 0) ≡ Err Short
unfolding packet_of
a_byte_less_than_a_header = refl

-- a length of 29
pub a_length_of_29 : packet_of (hex (codes "FFFF001D0001") ++ replicate 24 0) ≡ Err LengthSmall
unfolding decode_pairs packet_of
a_length_of_29 = refl

-- a length of 31 where there are 30 bytes
pub one_byte_beyond : packet_of (hex (codes "FFFF001F0001") ++ replicate 24 0) ≡ Err LengthBeyond
unfolding decode_pairs packet_of
one_byte_beyond = refl
