-- The text of a recording.
use Rattle.std.specs.Prelude.{ℕ, ◌+◌, Bool, true, false, List, [], ◌++◌, length, drop, codes, decimal, Option, Some, None, Result, Ok, Err}
use Rattle.std.specs.List.{flat_map}
use Rattle.ipx_wire.specs.Packet.{packet_of}
use Rattle.ipx_recording.specs.Carried.{Carrier, Framed, Ppp, Udp, carried_in}
use Rattle.ipx_recording.specs.Recorded.{State, Recorded, Contents, begins, packets_from, header_size, final}
use Rattle.ipx_recording.specs.declared.recording_fault.RecordingFault.{RecordingFault}
use Rattle.ipx_recording.specs.declared.recording_fault.RecordingFault.TheVariants.{CutHeader, Magic, Version, BlockLength, NoInterface, ManyInterfaces, RecordLong, LengthAgain, CutBlock}
use Rattle.ipx_cmd.specs.KindWord.{kind_word}
use Rattle.ipx_cmd.specs.PacketText.{packet_text}
use Rattle.ipx_cmd.specs.declared.ended.Ended.{Ended}
use Rattle.ipx_cmd.specs.declared.ended.Ended.TheVariants.{Done, BadInput}

-- what carries a packet, in a word
abbrev pub carrier_word : Carrier → List ℕ
carrier_word (Framed kind) = kind_word kind
carrier_word Ppp = codes "Ppp"
carrier_word Udp = codes "Udp"

-- carrier and packet, or `Other`
unfoldable pub carried_text : Option (Carrier × List ℕ) → List ℕ
carried_text None = codes "Other\n"
carried_text (Some (carrier, bytes)) = carrier_word carrier ++ codes " " ++ packet_text (packet_of bytes)

-- `record N`, and what is carried
unfoldable pub recorded_text : Recorded → List ℕ
recorded_text r = codes "record " ++ decimal r.number ++ codes " " ++ carried_text (carried_in r.link r.bytes)

-- the name of a fault
abbrev pub recording_word : RecordingFault → List ℕ
recording_word CutHeader = codes "CutHeader"
recording_word Magic = codes "Magic"
recording_word Version = codes "Version"
recording_word BlockLength = codes "BlockLength"
recording_word NoInterface = codes "NoInterface"
recording_word ManyInterfaces = codes "ManyInterfaces"
recording_word RecordLong = codes "RecordLong"
recording_word LengthAgain = codes "LengthAgain"
recording_word CutBlock = codes "CutBlock"

-- the line of a fault: `record N: WORD`
unfoldable pub recording_fault_text : ℕ → RecordingFault → List ℕ
recording_fault_text number fault = codes "record " ++ decimal number ++ codes ": " ++ recording_word fault ++ codes "\n"

-- the last line, where there is a fault
abbrev pub fault_line : ℕ → Option RecordingFault → List ℕ
fault_line number None = []
fault_line number (Some fault) = recording_fault_text number fault

-- how the run ends
abbrev pub end_by : Option RecordingFault → Ended
end_by None = Done
end_by (Some fault) = BadInput

abbrev pub is_fault : Option RecordingFault → Bool
is_fault None = false
is_fault (Some fault) = true

-- what is said of a file: its text, how the run ends, the text if the file may go on, and whether that ends in a fault
pub record Said : Type 0 where
  pub shown : List ℕ
  pub ended : Ended
  pub sofar : List ℕ
  pub judged : Bool

-- these lines, and then the fault at the record with the number
abbrev pub said : List ℕ → ℕ → Option RecordingFault → Said
said lines number fault = record {
  shown = lines ++ fault_line number fault;
  ended = end_by fault;
  sofar = lines ++ fault_line number (final fault);
  judged = is_fault (final fault);
}

-- packets, and the fault at the one behind them
abbrev pub contents_said : Contents → Said
contents_said c = said (flat_map recorded_text c.records) (length c.records + 1) c.fault

-- what is said behind the first section's fields; a fault of these has the number 0
abbrev pub behind_fields : Result State RecordingFault → List ℕ → Said
behind_fields (Err fault) bytes = said [] 0 (Some fault)
behind_fields (Ok s) bytes = contents_said (packets_from s 1 (drop header_size bytes))

unfoldable pub recording_said : List ℕ → Said
recording_said bytes = behind_fields (begins bytes) bytes
