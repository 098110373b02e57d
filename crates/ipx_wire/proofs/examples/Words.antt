-- The words of the examples: bytes as hexadecimal text, and a few addresses.
use Rattle.std.proofs.Common.{ℕ, List, [], ◌∷◌, Ok, Err}
use Rattle.hex.specs.Hex.{decode_of}
use Rattle.ipx_wire.specs.declared.address.Address.{Address}
use Rattle.ipx_wire.specs.declared.node.Node.{Node}
use Rattle.ipx_wire.specs.declared.rip.RipEntry.{RipEntry}

-- the bytes of hexadecimal digits
abbrev pub hex : List ℕ → List ℕ
hex text = elim (decode_of text) [ Ok bytes ↦ bytes | Err e ↦ [] ]

-- node 0000000000xx
abbrev pub node : ℕ → Node
node last = record { 0 = 0 ∷ 0 ∷ 0 ∷ 0 ∷ 0 ∷ last ∷ [] }

-- node FFFFFFFFFFFF
abbrev pub everyone : Node
everyone = record { 0 = 0xff ∷ 0xff ∷ 0xff ∷ 0xff ∷ 0xff ∷ 0xff ∷ [] }

-- the process of routing information on a node of a network
abbrev pub rip_at : ℕ → Node → Address
rip_at network node = record { network = record { 0 = network }; node = node; socket = record { 0 = 0x453 } }

-- the process of service advertising on a node of a network
abbrev pub sap_at : ℕ → Node → Address
sap_at network node = record { network = record { 0 = network }; node = node; socket = record { 0 = 0x452 } }

-- an entry of a routing information packet
abbrev pub entry : ℕ → ℕ → ℕ → RipEntry
entry network hops ticks = record { network = record { 0 = network }; hops = hops; ticks = ticks }
