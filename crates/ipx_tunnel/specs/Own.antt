-- The datagrams of the tunnel's own: answers and pings.
use Rattle.std.specs.Prelude.{Bool, ◌==◌, ◌&&◌, ◌||◌, ◌%◌, if◌then◌else◌, List, [], ◌∷◌, map}
use Rattle.std.specs.List.{filter}
use Rattle.ipx_wire.specs.Numbers.{no_checksum, header_size}
use Rattle.ipx_wire.specs.declared.address.Address.{Address}
use Rattle.ipx_wire.specs.declared.header.Header.{Header}
use Rattle.ipx_wire.specs.declared.network.Network.{Network}
use Rattle.ipx_wire.specs.declared.node.Node.{Node}
use Rattle.ipx_tunnel.specs.declared.own.Own.{Own}
use Rattle.ipx_tunnel.specs.declared.said.Said.{Said}
use Rattle.ipx_tunnel.specs.declared.said.Said.TheVariants.{Nothing, Registers, Answers, Speaks}
use Rattle.ipx_tunnel.specs.declared.sender.Sender.{Sender}
use Rattle.ipx_tunnel.specs.declared.setting.Setting.{Setting}
use Rattle.ipx_tunnel.specs.Numbers.{tunnel_socket, ping_every}
use Rattle.ipx_tunnel.specs.Places.{broadcast, is_among, is_here}
use Rattle.ipx_tunnel.specs.Events.{Datagram, Second, Send, History}
use Rattle.ipx_tunnel.specs.Says.{said, is_to}
use Rattle.ipx_tunnel.specs.Clients.{seconds_left, cookie, is_open, clients}

-- ---- what they are

-- a packet without data
abbrev pub header_of : Own → Header
header_of own = record {
  checksum = no_checksum;
  length = header_size;
  control = 0;
  kind = 0;
  destination = own.destination;
  source = own.source;
}

-- the tunnel's socket on a node
abbrev pub at_node : Network → Node → Address
at_node network node = record { network = network; node = node; socket = record { 0 = tunnel_socket } }

-- the answer to a registration or to a ping: it tells the client its node, and the tunnel's
abbrev pub answer_to : Setting → Node → Own
answer_to setting place = record { place = place; destination = at_node setting.network place; source = at_node setting.network setting.node }

-- a ping for one place alone, though for all by its destination: only then is it answered. The answer goes to the cookie
abbrev pub ping_to : Network → Node → Node → Own
ping_to network place cookie = record { place = place; destination = at_node network broadcast; source = at_node network cookie }

-- ---- who gets them

-- the packet is a ping of a client's, for all on this network
abbrev pub is_ping : Network → Header → Bool
is_ping network header = is_here network header.destination.network && is_to header broadcast

-- where there is room, a registration is answered and its sender pinged, and a stranger who speaks is pinged. A client's ping is
-- answered
abbrev pub own_for : Setting → List Node → Sender → Said → List Own
own_for setting clients from Nothing = []
own_for setting clients from Registers =
    if is_among from.place clients || is_open setting from.place clients
    then answer_to setting from.place ∷ ping_to setting.network from.place from.cookies.current ∷ [] else []
own_for setting clients from Answers = []
own_for setting clients from (Speaks header) =
    if is_among from.place clients then (if is_ping setting.network header then answer_to setting from.place ∷ [] else [])
    else if is_open setting from.place clients then ping_to setting.network from.place from.cookies.current ∷ [] else []

module _ (setting : Setting) where
  -- the place was silent for a multiple of five seconds
  abbrev pub is_silent : History → Node → Bool
  is_silent history place = seconds_left setting place history % ping_every == 0

  -- the datagrams of the tunnel's own after the latest event
  abbrev pub own : History → List Own
  own [] = []
  own (Datagram from bytes ∷ earlier) = own_for setting (clients setting (Datagram from bytes ∷ earlier)) from (said setting.network from bytes)
  own (Second ∷ earlier) =
      map (λ place. ping_to setting.network place (cookie setting place (Second ∷ earlier)))
      (filter (is_silent (Second ∷ earlier)) (clients setting (Second ∷ earlier)))
  own (Send to bytes ∷ earlier) = []
