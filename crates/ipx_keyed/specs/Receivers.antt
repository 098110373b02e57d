-- Who gets what a client says, or the router.
use Rattle.std.specs.Prelude.{ℕ, Bool, true, false, ◌&&◌, ◌||◌, not, if◌then◌else◌, List, [], ◌∷◌}
use Rattle.std.specs.List.{filter}
use Rattle.ipx_wire.specs.Packet.{packet_of}
use Rattle.ipx_wire.specs.declared.header.Header.{Header}
use Rattle.ipx_wire.specs.declared.node.Node.{Node}
use Rattle.ipx_tunnel.specs.Places.{same_node, broadcast, is_here}
use Rattle.ipx_tunnel.specs.Says.{packet_in}
use Rattle.ipx_tunnel.specs.Own.{is_ping}
use Rattle.ipx_tunnel.specs.Receivers.{is_for}
use Rattle.ipx_keyed.specs.declared.client.Client.{Client}
use Rattle.ipx_keyed.specs.declared.said.Said.{Said}
use Rattle.ipx_keyed.specs.declared.said.Said.TheVariants.{Nothing, Registers, Answers, Speaks}
use Rattle.ipx_keyed.specs.declared.sender.Sender.{Sender}
use Rattle.ipx_keyed.specs.declared.setting.Setting.{Setting}
use Rattle.ipx_keyed.specs.Events.{Event, Datagram, Second, Send, History}
use Rattle.ipx_keyed.specs.Says.{said}
use Rattle.ipx_keyed.specs.Members.{places_of, is_client_as}
use Rattle.ipx_keyed.specs.Tables.{clients}

-- the places of the clients for which a packet is: as on a cable, by their nodes
abbrev pub for_whom : Node → Node → List Client → List Node
for_whom to sender clients = places_of (filter (λ c. is_for to sender c.node) clients)

-- the places that get what a client said
abbrev pub to_for : Setting → List Client → Sender → Said → List Node
to_for setting clients from Nothing = []
to_for setting clients from Registers = []
to_for setting clients from (Answers node) = []
to_for setting clients from (Speaks header) =
    if is_client_as from.place header.source.node clients && is_here setting.network header.destination.network
    then for_whom header.destination.node header.source.node clients else []

-- the router hears what is for its node, for all, or for another network; but no ping
abbrev pub is_for_router : Setting → Header → Bool
is_for_router setting header =
    if is_here setting.network header.destination.network
    then same_node header.destination.node setting.node || (same_node header.destination.node broadcast && not (is_ping setting.network header))
    else true

abbrev pub is_heard_of : Setting → List Client → Sender → Said → Bool
is_heard_of setting clients from Nothing = false
is_heard_of setting clients from Registers = false
is_heard_of setting clients from (Answers node) = false
is_heard_of setting clients from (Speaks header) = is_client_as from.place header.source.node clients && is_for_router setting header

-- the packet of an event: what a datagram holds, or what the router sends
abbrev pub carried : Event → List ℕ
carried (Datagram from bytes) = packet_in bytes (packet_of bytes)
carried Second = []
carried (Send to bytes) = bytes

module _ (setting : Setting) where
  -- the places that get the packet of the latest event
  abbrev pub receivers : History → List Node
  receivers [] = []
  receivers (Datagram from bytes ∷ earlier) = to_for setting (clients setting (Datagram from bytes ∷ earlier)) from (said setting.network from bytes)
  receivers (Second ∷ earlier) = []
  receivers (Send to bytes ∷ earlier) = for_whom to setting.node (clients setting (Send to bytes ∷ earlier))

  -- the router hears it
  abbrev pub is_heard : History → Bool
  is_heard [] = false
  is_heard (Datagram from bytes ∷ earlier) = is_heard_of setting (clients setting (Datagram from bytes ∷ earlier)) from (said setting.network from bytes)
  is_heard (Second ∷ earlier) = false
  is_heard (Send to bytes ∷ earlier) = false
