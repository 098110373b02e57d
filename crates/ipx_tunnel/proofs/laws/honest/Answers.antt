use Rattle.std.proofs.Common.{◌≡◌, refl, true, false, Bool, not, if◌then◌else◌, List, ◌∷◌, ℕ, Result, Ok, Err, ◌||◌}
use Rattle.ipx_wire.specs.Packet.{Parts, packet_of}
use Rattle.ipx_wire.specs.declared.header.Header.{Header}
use Rattle.ipx_wire.specs.declared.network.Network.{Network}
use Rattle.ipx_wire.specs.declared.packet.PacketFault.{PacketFault}
use Rattle.ipx_tunnel.specs.declared.said.Said.TheVariants.{Nothing, Registers, Answers, Speaks}
use Rattle.ipx_tunnel.specs.declared.sender.Sender.{Sender}
use Rattle.ipx_tunnel.specs.declared.setting.Setting.{Setting}
use Rattle.ipx_tunnel.specs.Places.{same_node, nobody}
use Rattle.ipx_tunnel.specs.Events.{History, Datagram}
use Rattle.ipx_tunnel.specs.Says.{said, said_in, is_to, names}
use Rattle.ipx_tunnel.specs.Clients.{clients}
use Rattle.ipx_tunnel.specs.Laws.{IsHonest}
use Rattle.ipx_tunnel.proofs.Nodes.{same_is}
use Rattle.ipx_tunnel.proofs.Sending.{Spoke, router_hears, clients_hear, left_of, right_of}
use Rattle.ipx_tunnel.proofs.laws.honest.Goals as goal

-- who speaks names his place
by_words : (registers named answers : Bool) (h header : Header)
    → (if registers then Registers else if not named then Nothing else if answers then Answers else Speaks h) ≡ Speaks header → named ≡ true
by_words true named answers h header is = cc
by_words false false answers h header is = cc
by_words false true answers h header is = refl

speaks : (network : Network) (from : Sender) (r : Result Parts PacketFault) (header : Header) → said_in network from r ≡ Speaks header
    → (packet : Parts) × (r ≡ Ok packet) × (names network from.place packet.header ≡ true)
speaks network from (Ok packet) header is =
    let named = by_words (is_to packet.header nobody) (names network from.place packet.header)
    (is_to packet.header from.cookies.current || is_to packet.header from.cookies.previous) packet.header header is in
    (packet, refl, named)
speaks network from (Err fault) header is = cc

honest : (setting : Setting) (history : History) (from : Sender) (bytes : List ℕ)
    → Spoke (clients setting (Datagram from bytes ∷ history)) from (said setting.network from bytes) → IsHonest setting (Datagram from bytes ∷ history) from bytes
honest setting history from bytes spoke =
    let read = speaks setting.network from (packet_of bytes) spoke.header spoke.is in
    let source = read.0.header.source in
    record {
      packet = read.0;
      is_packet = read.1;
      client = spoke.client;
      source = same_is source.node from.place (left_of (same_node source.node from.place) _ read.2);
      network = right_of (same_node source.node from.place) _ read.2;
    }

pub returns-clause-router : goal.returns-clause-router
returns-clause-router c = λ setting history from bytes heard.
    honest setting history from bytes (router_hears setting (clients setting (Datagram from bytes ∷ history)) from (said setting.network from bytes) heard)

pub returns-clause-clients : goal.returns-clause-clients
returns-clause-clients c = λ setting history from bytes place got.
    honest setting history from bytes (clients_hear setting (clients setting (Datagram from bytes ∷ history)) from place (said setting.network from bytes) got)
