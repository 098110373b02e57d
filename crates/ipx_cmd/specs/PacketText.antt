-- The lines of a packet: its header, and what its data say.
use Rattle.std.specs.Prelude.{ℕ, ◌==◌, if◌then◌else◌, List, [], ◌++◌, codes, decimal, Result, Ok, Err}
use Rattle.ipx_wire.specs.Crossed.{crossed_of}
use Rattle.ipx_wire.specs.Packet.{Parts}
use Rattle.ipx_wire.specs.Rip.{rip_of}
use Rattle.ipx_wire.specs.Sap.{sap_of}
use Rattle.ipx_wire.specs.declared.header.Header.{Header}
use Rattle.ipx_wire.specs.declared.packet.PacketFault.{PacketFault}
use Rattle.ipx_wire.specs.AddressWord.{address_word}
use Rattle.ipx_cmd.specs.CrossedText.{crossed_text}
use Rattle.ipx_cmd.specs.RipText.{rip_text}
use Rattle.ipx_cmd.specs.SapText.{sap_text}
use Rattle.ipx_router.specs.Numbers.{propagated_type, rip_socket, sap_socket}
use Rattle.ipx_router.specs.WhyWord.{packet_word}

-- `SOURCE DESTINATION`
unfoldable pub ends_text : Header → List ℕ
ends_text h = address_word h.source ++ codes " " ++ address_word h.destination

-- ` tc T type Y length L`
unfoldable pub counts_text : Header → List ℕ
counts_text h = codes " tc " ++ decimal h.control ++ codes " type " ++ decimal h.kind ++ codes " length " ++ decimal h.length ++ codes "\n"

-- `SOURCE DESTINATION tc T type Y length L`
unfoldable pub header_text : Header → List ℕ
header_text h = ends_text h ++ counts_text h

-- the lines of the data, by the first case that holds: the type, the destination's socket, the source's
unfoldable pub data_text : Header → List ℕ → List ℕ
data_text h payload =
    if h.kind == propagated_type then crossed_text (crossed_of h.control payload)
    else if h.destination.socket.0 == rip_socket then rip_text (rip_of payload)
    else if h.destination.socket.0 == sap_socket then sap_text (sap_of payload)
    else if h.source.socket.0 == rip_socket then rip_text (rip_of payload)
    else if h.source.socket.0 == sap_socket then sap_text (sap_of payload)
    else []

-- what is said of IPX bytes: the lines of the packet that they are, or why they are none
unfoldable pub packet_text : Result Parts PacketFault → List ℕ
packet_text (Ok p) = header_text p.header ++ data_text p.header p.payload
packet_text (Err fault) = codes "bad " ++ packet_word fault ++ codes "\n"
