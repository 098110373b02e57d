-- What kind packets are.
use Rattle.std.proofs.Common.{◌≡◌, refl, ℕ, List, [], ◌∷◌, ◌++◌, length, ◌+◌}
use Rattle.ipx_wire.specs.Address.{address_at, address_bytes}
use Rattle.ipx_wire.specs.Header.{header_at, header_bytes}
use Rattle.ipx_wire.specs.Packet.{packet_of}
use Rattle.ipx_wire.specs.declared.address.Address.{Address}
use Rattle.ipx_wire.specs.declared.node.Node.{Node}
use Rattle.ipx_limits.specs.declared.kind.Kind.TheVariants.{Ping, Answer, Question, Told, Other}
use Rattle.ipx_limits.specs.Nodes.{broadcast}
use Rattle.ipx_limits.specs.Kinds.{kind_of}

abbrev one : Node
one = record { 0 = 2 ∷ 0 ∷ 0 ∷ 0 ∷ 0 ∷ 1 ∷ [] }

abbrev at : Node → ℕ → Address
at node socket = record { network = record { 0 = 16 }; node = node; socket = record { 0 = socket } }

-- a packet to a node and a socket, from a socket of somebody else
abbrev packet : Node → ℕ → ℕ → List ℕ → List ℕ
packet node to from payload =
    header_bytes (record { checksum = 0xffff; length = 30 + length payload; control = 0; kind = 0; destination = at node to; source = at one from })
    ++ payload

pub pings_all : kind_of (packet broadcast 2 0x4000 []) ≡ Ping
unfolding packet_of header_at address_at header_bytes address_bytes
pings_all = refl

pub answers_one : kind_of (packet one 0x4000 2 []) ≡ Answer
unfolding packet_of header_at address_at header_bytes address_bytes
answers_one = refl

pub pings_one : kind_of (packet one 2 0x4000 []) ≡ Answer
unfolding packet_of header_at address_at header_bytes address_bytes
pings_one = refl

pub asks_for_routes : kind_of (packet broadcast 0x453 0x4000 (0 ∷ 1 ∷ [])) ≡ Question
unfolding packet_of header_at address_at header_bytes address_bytes
asks_for_routes = refl

pub tells_routes : kind_of (packet broadcast 0x453 0x453 (0 ∷ 2 ∷ [])) ≡ Told
unfolding packet_of header_at address_at header_bytes address_bytes
tells_routes = refl

pub asks_for_the_nearest : kind_of (packet broadcast 0x452 0x4000 (0 ∷ 3 ∷ 0 ∷ 4 ∷ [])) ≡ Question
unfolding packet_of header_at address_at header_bytes address_bytes
asks_for_the_nearest = refl

pub tells_services : kind_of (packet broadcast 0x452 0x452 (0 ∷ 4 ∷ [])) ≡ Told
unfolding packet_of header_at address_at header_bytes address_bytes
tells_services = refl

-- without an operation it is no question
pub has_no_operation : kind_of (packet broadcast 0x453 0x4000 (1 ∷ [])) ≡ Told
unfolding packet_of header_at address_at header_bytes address_bytes
has_no_operation = refl

pub plays : kind_of (packet broadcast 0x869c 0x869c (1 ∷ 2 ∷ 3 ∷ [])) ≡ Other
unfolding packet_of header_at address_at header_bytes address_bytes
plays = refl

pub is_cut_off : kind_of (0xff ∷ 0xff ∷ 0 ∷ 30 ∷ []) ≡ Other
unfolding packet_of header_at address_at header_bytes address_bytes
is_cut_off = refl
