-- The words of the examples: bytes as hexadecimal text, and a port.
use Rattle.std.proofs.Common.{ℕ, List, [], ◌∷◌, ◌++◌, Ok, Err, codes, replicate}
use Rattle.hex.specs.Hex.{decode_of}
use Rattle.ipx_router.specs.Numbers.{whole_share}
use Rattle.ipx_router.specs.Port.{Port}

-- the bytes of hexadecimal digits
abbrev pub hex : List ℕ → List ℕ
hex text = elim (decode_of text) [ Ok bytes ↦ bytes | Err e ↦ [] ]

-- the router's port on network 50h, with node 1
abbrev pub port : Port
port = record {
  network = record { 0 = 0x50 };
  node = record { 0 = 0 ∷ 0 ∷ 0 ∷ 0 ∷ 0 ∷ 1 ∷ [] };
  cost = 1;
  longest = 576;
  route_share = whole_share;
  service_share = whole_share;
}

-- a service of type 4 with name P: its 64 bytes, from its network's number and its hops
abbrev pub service : List ℕ → List ℕ → List ℕ
service network hops = hex (codes "000450") ++ replicate 47 0 ++ hex network ++ hex (codes "0000000000AA0451") ++ hex hops
