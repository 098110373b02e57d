-- The line of a whole packet.
use Rattle.std.specs.Prelude.{ℕ, List, [], Result, Ok, Err}
use Rattle.ipx_wire.specs.Packet.{Parts, packet_of}
use Rattle.ipx_wire.specs.declared.packet.PacketFault.{PacketFault}
use Rattle.ipx_inside.specs.Inside.{inside_of}
use Rattle.ipx_inside.specs.InsideText.{inside_text}

abbrev pub told : Result Parts PacketFault → List ℕ
told (Ok p) = inside_text (inside_of p.header p.payload)
told (Err fault) = []

-- what the bytes of a packet hold
abbrev pub line : List ℕ → List ℕ
line bytes = told (packet_of bytes)
