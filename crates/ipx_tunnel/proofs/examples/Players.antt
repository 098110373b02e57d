-- The players of the worked examples: a tunnel on network 10h for three clients, two of them of one address.
use Rattle.std.proofs.Common.{ℕ, zero, suc, Bool, true, false, List, [], ◌∷◌}
use Rattle.ipx_wire.specs.Header.{header_bytes}
use Rattle.ipx_wire.specs.declared.address.Address.{Address}
use Rattle.ipx_wire.specs.declared.header.Header.{Header}
use Rattle.ipx_wire.specs.declared.node.Node.{Node}
use Rattle.ipx_tunnel.specs.declared.sender.Sender.{Sender}
use Rattle.ipx_tunnel.specs.declared.setting.Setting.{Setting}
use Rattle.ipx_tunnel.specs.Places.{broadcast, nobody}
use Rattle.ipx_tunnel.specs.Events.{Event, Datagram, Second, History}

abbrev pub tunnel_node : Node
tunnel_node = record { 0 = 0 ∷ 0 ∷ 0 ∷ 0 ∷ 0 ∷ 1 ∷ [] }

abbrev pub setting : Setting
setting = record { network = record { 0 = 0x10 }; node = tunnel_node; capacity = 3; share = 2 }

-- the place of that address and port
abbrev pub at : ℕ → ℕ → Node
at address port = record { 0 = 10 ∷ 0 ∷ 0 ∷ address ∷ 0 ∷ port ∷ [] }

-- the cookie of a place in a minute
abbrev pub cookie_of : ℕ → ℕ → ℕ → Node
cookie_of address port minute = record { 0 = 2 ∷ address ∷ port ∷ 0 ∷ 0 ∷ minute ∷ [] }

-- who sends from a place in a minute, and doesn't hear; and who sends from there and is trusted
abbrev pub from_in : Bool → ℕ → ℕ → ℕ → Sender
from_in is_trusted address port minute = record {
  place = at address port;
  cookies = record { current = cookie_of address port (suc minute); previous = cookie_of address port minute };
  is_trusted = is_trusted;
}

abbrev pub from : ℕ → ℕ → Sender
from address port = from_in false address port 1

abbrev pub trusted : ℕ → ℕ → Sender
trusted address port = from_in true address port 1

-- a socket on a node of a network
abbrev pub address : ℕ → Node → ℕ → Address
address network node socket = record { network = record { 0 = network }; node = node; socket = record { 0 = socket } }

abbrev pub header : Address → Address → Header
header source destination = record { checksum = 0xffff; length = 30; control = 0; kind = 0; destination = destination; source = source }

abbrev pub packet : Address → Address → List ℕ
packet source destination = header_bytes (header source destination)

-- a registration, which names nobody
abbrev pub registers : Sender → Event
registers sender = Datagram sender (packet (address 0 nobody 2) (address 0 nobody 2))

-- an answer to a ping with that source
abbrev pub answers_to : Node → Sender → Event
answers_to node sender = Datagram sender (packet (address 0x10 sender.place 2) (address 0x10 node 2))

abbrev pub answers : Sender → Event
answers sender = answers_to sender.cookies.current sender

-- a packet of a game to a node, and to all
abbrev pub says_to : Node → Sender → Event
says_to node sender = Datagram sender (packet (address 0x10 sender.place 0x869c) (address 0x10 node 0x869c))

abbrev pub says : Sender → Event
says sender = says_to broadcast sender

-- so many seconds pass
abbrev pub later : ℕ → History → History
later zero history = history
later (suc n) history = Second ∷ later n history

-- three players have come
abbrev pub three : History
three = answers (from 2 1) ∷ answers (from 1 2) ∷ answers (from 1 1) ∷ []
