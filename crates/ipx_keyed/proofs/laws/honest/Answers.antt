use Rattle.std.proofs.Common.{◌≡◌, ◌∙◌, refl, ap, true, false, Bool, not, if◌then◌else◌, ◌⊎◌, inl, inr, List, ◌∷◌, ℕ, Result, Ok, Err, ◌||◌}
use Rattle.ipx_wire.specs.Packet.{Parts, packet_of}
use Rattle.ipx_wire.specs.declared.header.Header.{Header}
use Rattle.ipx_wire.specs.declared.network.Network.{Network}
use Rattle.ipx_wire.specs.declared.packet.PacketFault.{PacketFault}
use Rattle.ipx_tunnel.specs.Places.{same_node, nobody, is_from_here}
use Rattle.ipx_tunnel.specs.Says.{is_to}
use Rattle.ipx_tunnel.proofs.Nodes.{same_is}
use Rattle.ipx_tunnel.proofs.Sending.{left_of, right_of}
use Rattle.ipx_keyed.specs.declared.said.Said.{Said}
use Rattle.ipx_keyed.specs.declared.said.Said.TheVariants.{Nothing, Registers, Answers, Speaks}
use Rattle.ipx_keyed.specs.declared.sender.Sender.{Sender}
use Rattle.ipx_keyed.specs.declared.setting.Setting.{Setting}
use Rattle.ipx_keyed.specs.Events.{History, Datagram}
use Rattle.ipx_keyed.specs.Says.{said, said_in, names}
use Rattle.ipx_keyed.specs.Members.{is_client_as}
use Rattle.ipx_keyed.specs.Tables.{clients}
use Rattle.ipx_keyed.specs.Laws.{IsHonest}
use Rattle.ipx_keyed.proofs.Sending.{Spoke, router_hears, clients_hear}
use Rattle.ipx_keyed.proofs.Shown.{either}
use Rattle.ipx_keyed.proofs.laws.honest.Goals as goal

-- who speaks names a node of his, in a packet of that header
by_words : (registers may named answers : Bool) (h header : Header)
    → (if registers then (if may then Registers else Nothing) else if not named then Nothing else if answers then Answers h.source.node else Speaks h) ≡ Speaks header
    → (named ≡ true) × (Speaks h ≡ Speaks header)
by_words true true named answers h header is = cc
by_words true false named answers h header is = cc
by_words false may false answers h header is = cc
by_words false may true true h header is = cc
by_words false may true false h header is = (refl, is)

abbrev header_in : Header → Said → Header
header_in h Nothing = h
header_in h Registers = h
header_in h (Answers node) = h
header_in h (Speaks header) = header

speaks : (network : Network) (from : Sender) (r : Result Parts PacketFault) (header : Header) → said_in network from r ≡ Speaks header
    → (packet : Parts) × (r ≡ Ok packet) × (names network from packet.header ≡ true) × (packet.header ≡ header)
speaks network from (Ok packet) header is =
    let found = by_words (is_to packet.header nobody) from.may_register (names network from packet.header)
    (is_to packet.header from.cookies.current || is_to packet.header from.cookies.previous) packet.header header is in
    (packet, refl, found.0, ap (header_in packet.header) found.1)
speaks network from (Err fault) header is = cc

honest : (setting : Setting) (history : History) (from : Sender) (bytes : List ℕ)
    → Spoke (clients setting (Datagram from bytes ∷ history)) from (said setting.network from bytes) → IsHonest setting (Datagram from bytes ∷ history) from bytes
honest setting history from bytes spoke =
    let read = speaks setting.network from (packet_of bytes) spoke.header spoke.is in
    let source = read.0.header.source in
    let named = left_of (same_node source.node from.node || same_node source.node from.former) _ read.2 in
    let whose : (source.node ≡ from.node) ⊎ (source.node ≡ from.former) =
    elim (either (same_node source.node from.node) (same_node source.node from.former) named) [
      | inl now ↦ inl (same_is source.node from.node now)
      | inr before ↦ inr (same_is source.node from.former before)
    ] in
    record {
      packet = read.0;
      is_packet = read.1;
      client = ap (λ (h : Header). is_client_as from.place h.source.node (clients setting (Datagram from bytes ∷ history))) read.3 ∙ spoke.client;
      source = whose;
      network = right_of (same_node source.node from.node || same_node source.node from.former) (is_from_here setting.network source.network) read.2;
    }

pub returns-clause-router : goal.returns-clause-router
returns-clause-router c = λ setting history from bytes heard.
    honest setting history from bytes (router_hears setting (clients setting (Datagram from bytes ∷ history)) from (said setting.network from bytes) heard)

pub returns-clause-clients : goal.returns-clause-clients
returns-clause-clients c = λ setting history from bytes place got.
    honest setting history from bytes (clients_hear setting (clients setting (Datagram from bytes ∷ history)) from place (said setting.network from bytes) got)
