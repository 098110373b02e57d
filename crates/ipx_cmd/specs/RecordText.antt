-- The lines of a record of a capture.
use Rattle.std.specs.Prelude.{ℕ, List, ◌++◌, codes, decimal, Option, Some, None}
use Rattle.ipx_capture.specs.Frame.{Kind, frame_of}
use Rattle.ipx_capture.specs.Records.{Record}
use Rattle.ipx_wire.specs.Packet.{packet_of}
use Rattle.ipx_cmd.specs.KindWord.{kind_word}
use Rattle.ipx_cmd.specs.PacketText.{packet_text}

-- kind and packet of a frame, or `Other`
unfoldable pub frame_text : Option (Kind × List ℕ) → List ℕ
frame_text None = codes "Other\n"
frame_text (Some (kind, bytes)) = kind_word kind ++ codes " " ++ packet_text (packet_of bytes)

-- `record N`, and what its frame carries
unfoldable pub record_text : Record → List ℕ
record_text r = codes "record " ++ decimal r.number ++ codes " " ++ frame_text (frame_of r.bytes)
