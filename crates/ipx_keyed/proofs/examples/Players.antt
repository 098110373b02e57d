-- The players of the worked examples: a tunnel on network 10h for three clients, two of them of one address. It remembers three places that
-- registered, two of them of one address.
use Rattle.std.proofs.Common.{ℕ, zero, suc, Bool, true, false, List, [], ◌∷◌}
use Rattle.ipx_wire.specs.Header.{header_bytes}
use Rattle.ipx_wire.specs.declared.address.Address.{Address}
use Rattle.ipx_wire.specs.declared.header.Header.{Header}
use Rattle.ipx_wire.specs.declared.node.Node.{Node}
use Rattle.ipx_tunnel.specs.Places.{broadcast, nobody}
use Rattle.ipx_keyed.specs.declared.client.Client.{Client}
use Rattle.ipx_keyed.specs.declared.sender.Sender.{Sender}
use Rattle.ipx_keyed.specs.declared.setting.Setting.{Setting}
use Rattle.ipx_keyed.specs.Events.{Event, Datagram, Second, History}
use Rattle.ipx_keyed.specs.Members.{fresh}

abbrev pub tunnel_node : Node
tunnel_node = record { 0 = 0 ∷ 0 ∷ 0 ∷ 0 ∷ 0 ∷ 1 ∷ [] }

abbrev pub setting : Setting
setting = record { network = record { 0 = 0x10 }; node = tunnel_node; capacity = 3; share = 2; remembered = 3; remembered_share = 2 }

-- the place of that address and port, the node that it is given, and the cookie of a minute
abbrev pub at : ℕ → ℕ → Node
at address port = record { 0 = 10 ∷ 0 ∷ 0 ∷ address ∷ 0 ∷ port ∷ [] }

abbrev pub node_of : ℕ → ℕ → Node
node_of address port = record { 0 = 2 ∷ 0xaa ∷ 0 ∷ address ∷ 0 ∷ port ∷ [] }

abbrev pub cookie_of : ℕ → ℕ → ℕ → Node
cookie_of address port minute = record { 0 = 2 ∷ address ∷ port ∷ 0 ∷ 0 ∷ minute ∷ [] }

-- who sends from a place in a minute. The node that he may name from before is his place
abbrev pub from_in : Bool → Bool → ℕ → ℕ → ℕ → Sender
from_in is_trusted may_register address port minute = record {
  place = at address port;
  node = node_of address port;
  former = at address port;
  cookies = record { current = cookie_of address port (suc minute); previous = cookie_of address port minute };
  is_trusted = is_trusted;
  may_register = may_register;
}

abbrev pub from : ℕ → ℕ → Sender
from address port = from_in false true address port 1

abbrev pub trusted : ℕ → ℕ → Sender
trusted address port = from_in true true address port 1

-- somebody who comes while there are too many strangers
abbrev pub crowded : ℕ → ℕ → Sender
crowded address port = from_in false false address port 1

-- a socket on a node of a network
abbrev pub address : ℕ → Node → ℕ → Address
address network node socket = record { network = record { 0 = network }; node = node; socket = record { 0 = socket } }

abbrev pub packet : Address → Address → List ℕ
packet source destination =
    let header : Header = record { checksum = 0xffff; length = 30; control = 0; kind = 0; destination = destination; source = source } in
    header_bytes header

-- a registration, which names nobody
abbrev pub registers : Sender → Event
registers sender = Datagram sender (packet (address 0 nobody 2) (address 0 nobody 2))

-- an answer to a ping, under a node
abbrev pub answers_as : Node → Sender → Event
answers_as node sender = Datagram sender (packet (address 0x10 node 2) (address 0x10 sender.cookies.current 2))

abbrev pub answers : Sender → Event
answers sender = answers_as sender.node sender

-- a packet of a game under a node, to another and to all
abbrev pub says_as : Node → Node → Sender → Event
says_as node to sender = Datagram sender (packet (address 0x10 node 0x869c) (address 0x10 to 0x869c))

abbrev pub says_to : Node → Sender → Event
says_to to sender = says_as sender.node to sender

abbrev pub says : Sender → Event
says sender = says_to broadcast sender

-- so many seconds pass
abbrev pub later : ℕ → History → History
later zero history = history
later (suc n) history = Second ∷ later n history

-- three players have come by an answer each
abbrev pub three : History
three = answers (from 2 1) ∷ answers (from 1 2) ∷ answers (from 1 1) ∷ []

-- a client or somebody remembered of that address and port, with so many seconds left
abbrev pub with : ℕ → ℕ → ℕ → Client
with address port seconds = fresh (from address port) (node_of address port) seconds
