-- A node asks its network for every route.
use Rattle.std.proofs.Common.{arith}
use Rattle.std.proofs.Common.{◌≡◌, ℕ, List, [], ◌∷◌, ◌++◌, refl, codes, lit<, Ok}
use Rattle.hex.specs.Hex.{decode_pairs}
use Rattle.ipx_wire.specs.Items.{items}
use Rattle.ipx_wire.specs.Address.{address_bytes, address_at}
use Rattle.ipx_wire.specs.Header.{header_bytes, header_at}
use Rattle.ipx_wire.specs.Packet.{Parts, IsPacket, packet_of}
use Rattle.ipx_wire.specs.Rip.{RipParts, IsRip, entry_bytes, entry_at, rip_of}
use Rattle.ipx_wire.specs.declared.rip.Operation.TheVariants.{Request}
use Rattle.ipx_wire.proofs.examples.Words.{hex, node, everyone, rip_at, entry}

abbrev pub payload : List ℕ
payload = hex (codes "0001FFFFFFFFFFFFFFFF")

abbrev pub bytes : List ℕ
bytes = hex (codes "FFFF0028000100000010FFFFFFFFFFFF0453000000100000000000AA0453") ++ payload

abbrev pub parts : Parts
parts = record {
  header = record {
    checksum = 0xffff;
    length = 40;
    control = 0;
    kind = 1;
    destination = rip_at 0x10 everyone;
    source = rip_at 0x10 (node 0xaa);
  };
  payload = payload;
}

abbrev pub rip_parts : RipParts
rip_parts = record { operation = Request; entries = entry 0xffffffff 0xffff 0xffff ∷ [] }

-- the bytes are read as the packet
pub packet_read : packet_of bytes ≡ Ok parts
unfolding decode_pairs packet_of header_at address_at
packet_read = refl

-- they are the packet's by its layout
pub packet_is : IsPacket bytes parts
unfolding decode_pairs header_bytes address_bytes
packet_is = record {
  header = record {
    checksum = lit< tt;
    length = lit< tt;
    control = lit< tt;
    kind = lit< tt;
    destination = record { network = lit< tt; node = refl; socket = lit< tt };
    source = record { network = lit< tt; node = refl; socket = lit< tt };
  };
  padding = [];
  layout = refl;
  counted = refl;
}

-- its data are read as the request
pub data_read : rip_of payload ≡ Ok rip_parts
unfolding decode_pairs rip_of items entry_at
data_read = refl

-- they are the request's by its layout
pub data_are : IsRip payload rip_parts
unfolding decode_pairs entry_bytes
data_are = grind arith
