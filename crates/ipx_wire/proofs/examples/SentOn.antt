-- Packets that a router of networks 10h and 20h sends on.
use Rattle.std.proofs.Common.{◌≡◌, ℕ, List, [], ◌∷◌, ◌++◌, refl, codes, replicate, Ok}
use Rattle.hex.specs.Hex.{decode_pairs}
use Rattle.ipx_wire.specs.Items.{items}
use Rattle.ipx_wire.specs.Address.{address_bytes, address_at}
use Rattle.ipx_wire.specs.Crossed.{network_bytes, network_at, crossed_of}
use Rattle.ipx_wire.specs.Forward.{forwarded, propagated}
use Rattle.ipx_wire.specs.Header.{header_bytes, header_at}
use Rattle.ipx_wire.specs.Packet.{Parts, packet_of}
use Rattle.ipx_wire.specs.Write.{packet_bytes}
use Rattle.ipx_wire.specs.declared.address.Address.{Address}
use Rattle.ipx_wire.specs.declared.node.Node.{Node}
use Rattle.ipx_wire.proofs.examples.CrossedLists.{network}
use Rattle.ipx_wire.proofs.examples.Words.{hex, node, everyone}

-- a socket on a node of a network
abbrev process : ℕ → Node → ℕ → Address
process number which socket = record { network = network number; node = which; socket = record { 0 = socket } }

-- from a node of network 10h to one of network 20h, without data
abbrev pub letter : ℕ → ℕ → Parts
letter checksum control = record {
  header = record {
    checksum = checksum;
    length = 30;
    control = control;
    kind = 0;
    destination = process 0x20 (node 0xcc) 0x4003;
    source = process 0x10 (node 0xaa) 0x4003;
  };
  payload = [];
}

-- it is read, with thirty bytes of padding behind it
pub letter_read : packet_of (hex (codes "FFFF001E0000000000200000000000CC4003000000100000000000AA4003") ++ replicate 30 0) ≡ Ok (letter 0xffff 0)
unfolding decode_pairs packet_of header_at address_at
letter_read = refl

-- it leaves without its padding
pub letter_sent_on : packet_bytes (forwarded (letter 0xffff 0)) ≡ hex (codes "FFFF001E0100000000200000000000CC4003000000100000000000AA4003")
unfolding decode_pairs header_bytes address_bytes
letter_sent_on = refl

-- its checksum stays as it came, and what came with fifteen leaves with sixteen
pub checksum_stays : packet_bytes (forwarded (letter 0x1234 15)) ≡ hex (codes "1234001E1000000000200000000000CC4003000000100000000000AA4003")
unfolding decode_pairs header_bytes address_bytes
checksum_stays = refl

-- a node of network 10h calls everyone, whatever the network
abbrev pub call : ℕ → ℕ → List ℕ → Parts
call checksum control payload = record {
  header = record {
    checksum = checksum;
    length = 62;
    control = control;
    kind = 20;
    destination = process 0x10 everyone 0x455;
    source = process 0x10 (node 0xaa) 0x455;
  };
  payload = payload;
}

pub call_read : packet_of (hex (codes "FFFF003E001400000010FFFFFFFFFFFF0455000000100000000000AA0455") ++ replicate 32 0) ≡ Ok (call 0xffff 0 (replicate 32 0))
unfolding decode_pairs packet_of header_at address_at
call_read = refl

-- it leaves for network 20h with network 10h as the first crossed
pub call_sent_on : packet_bytes (propagated (network 0x10) (network 0x20) (call 0xffff 0 (replicate 32 0)))
    ≡ hex (codes "FFFF003E011400000020FFFFFFFFFFFF0455000000100000000000AA0455" ++ codes "00000010") ++ replicate 28 0
unfolding decode_pairs header_bytes address_bytes network_bytes
call_sent_on = refl

-- from there it leaves for network 30h with both as those crossed
pub call_sent_on_twice : packet_bytes (propagated (network 0x20) (network 0x30) (propagated (network 0x10) (network 0x20) (call 0xffff 0 (replicate 32 0))))
    ≡ hex (codes "FFFF003E021400000030FFFFFFFFFFFF0455000000100000000000AA0455" ++ codes "0000001000000020") ++ replicate 24 0
unfolding decode_pairs header_bytes address_bytes network_bytes
call_sent_on_twice = refl

-- the next router reads both
pub both_crossed : crossed_of 2 (propagated (network 0x20) (network 0x30) (propagated (network 0x10) (network 0x20) (call 0xffff 0 (replicate 32 0)))).payload
    ≡ Ok (network 0x10 ∷ network 0x20 ∷ [])
unfolding network_bytes crossed_of items network_at
both_crossed = refl

-- with seven crossed the eighth place is written, and a checksum that came is left out
pub last_place : packet_bytes (propagated (network 0x10) (network 0x20) (call 0x1234 7 (replicate 32 0)))
    ≡ hex (codes "FFFF003E081400000020FFFFFFFFFFFF0455000000100000000000AA0455") ++ replicate 28 0 ++ hex (codes "00000010")
unfolding decode_pairs header_bytes address_bytes network_bytes
last_place = refl
