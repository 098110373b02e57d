-- A router tells its neighbours a route: network 30h, one hop, two ticks.
use Rattle.std.proofs.Common.{◌≡◌, ℕ, List, [], ◌∷◌, ◌++◌, refl, codes, Ok}
use Rattle.hex.specs.Hex.{decode_pairs}
use Rattle.ipx_wire.specs.Items.{items}
use Rattle.ipx_wire.specs.Address.{address_at}
use Rattle.ipx_wire.specs.Header.{header_at}
use Rattle.ipx_wire.specs.Packet.{Parts, packet_of}
use Rattle.ipx_wire.specs.Rip.{RipParts, entry_at, rip_of}
use Rattle.ipx_wire.specs.declared.rip.Operation.TheVariants.{Response}
use Rattle.ipx_wire.proofs.examples.Words.{hex, node, everyone, rip_at, entry}

abbrev pub payload : List ℕ
payload = hex (codes "00020000003000010002")

abbrev pub bytes : List ℕ
bytes = hex (codes "FFFF0028000100000020FFFFFFFFFFFF0453000000200000000000BB0453") ++ payload

abbrev pub parts : Parts
parts = record {
  header = record {
    checksum = 0xffff;
    length = 40;
    control = 0;
    kind = 1;
    destination = rip_at 0x20 everyone;
    source = rip_at 0x20 (node 0xbb);
  };
  payload = payload;
}

abbrev pub rip_parts : RipParts
rip_parts = record { operation = Response; entries = entry 0x30 1 2 ∷ [] }

-- the bytes are read as the packet
pub packet_read : packet_of bytes ≡ Ok parts
unfolding decode_pairs packet_of header_at address_at
packet_read = refl

-- its data are read as the response
pub data_read : rip_of payload ≡ Ok rip_parts
unfolding decode_pairs rip_of items entry_at
data_read = refl
