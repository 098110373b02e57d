-- The bytes of the examples.
use Rattle.std.proofs.Common.{ℕ, List, [], ◌∷◌, ◌++◌}
use Rattle.ipx_capture.proofs.examples.Words.{typed, zeros}
use Rattle.ipx_recording.specs.Recorded.{Recorded}

-- a section's header, lowest byte first: 28 bytes, version 1.0, of no told length
abbrev pub section_fields : List ℕ
section_fields =
    0x0A ∷ 0x0D ∷ 0x0D ∷ 0x0A ∷ 28 ∷ 0 ∷ 0 ∷ 0 ∷ 0x4D ∷ 0x3C ∷ 0x2B ∷ 0x1A ∷ [] ++ (1 ∷ 0 ∷ 0 ∷ 0 ∷ [])
    ++ (0xFF ∷ 0xFF ∷ 0xFF ∷ 0xFF ∷ 0xFF ∷ 0xFF ∷ 0xFF ∷ 0xFF ∷ [])

abbrev pub little_section : List ℕ
little_section = section_fields ++ (28 ∷ 0 ∷ 0 ∷ 0 ∷ [])

-- an interface of a link type, on which all is kept
abbrev pub little_interface : ℕ → List ℕ
little_interface link = 1 ∷ 0 ∷ 0 ∷ 0 ∷ 20 ∷ 0 ∷ 0 ∷ 0 ∷ [] ++ (link ∷ 0 ∷ 0 ∷ 0 ∷ []) ++ zeros ++ (20 ∷ 0 ∷ 0 ∷ 0 ∷ [])

-- a packet of an interface: 54 bytes kept of 54, and two that pad the block of 88
abbrev pub packet_fields : ℕ → List ℕ
packet_fields number = 6 ∷ 0 ∷ 0 ∷ 0 ∷ 88 ∷ 0 ∷ 0 ∷ 0 ∷ [] ++ (number ∷ 0 ∷ 0 ∷ 0 ∷ []) ++ zeros ++ zeros ++ (54 ∷ 0 ∷ 0 ∷ 0 ∷ []) ++ (54 ∷ 0 ∷ 0 ∷ 0 ∷ [])

abbrev pub little_packet : ℕ → List ℕ
little_packet number = packet_fields number ++ typed ++ (0 ∷ 0 ∷ []) ++ (88 ∷ 0 ∷ 0 ∷ 0 ∷ [])

-- the same in the old form, after seven packets that were lost
abbrev pub old_packet : List ℕ
old_packet =
    2 ∷ 0 ∷ 0 ∷ 0 ∷ 88 ∷ 0 ∷ 0 ∷ 0 ∷ [] ++ (0 ∷ 0 ∷ 7 ∷ 0 ∷ []) ++ zeros ++ zeros ++ (54 ∷ 0 ∷ 0 ∷ 0 ∷ []) ++ (54 ∷ 0 ∷ 0 ∷ 0 ∷ []) ++ typed ++ (0 ∷ 0 ∷ [])
    ++ (88 ∷ 0 ∷ 0 ∷ 0 ∷ [])

-- a simple packet of 60 bytes on the wire, where 54 are kept
abbrev pub simple_packet : List ℕ
simple_packet = 3 ∷ 0 ∷ 0 ∷ 0 ∷ 72 ∷ 0 ∷ 0 ∷ 0 ∷ [] ++ (60 ∷ 0 ∷ 0 ∷ 0 ∷ []) ++ typed ++ (0 ∷ 0 ∷ []) ++ (72 ∷ 0 ∷ 0 ∷ 0 ∷ [])

-- a block of 16 bytes that nobody knows
abbrev pub unknown : List ℕ
unknown = 99 ∷ 0 ∷ 0 ∷ 0 ∷ 16 ∷ 0 ∷ 0 ∷ 0 ∷ [] ++ zeros ++ (16 ∷ 0 ∷ 0 ∷ 0 ∷ [])

-- the packet of these files
abbrev pub packet : ℕ → ℕ → Recorded
packet number link = record { number = number; link = link; wire = 54; bytes = typed }
