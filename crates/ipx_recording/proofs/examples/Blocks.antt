-- Files of a few blocks.
use Rattle.std.proofs.Common.{◌≡◌, ℕ, List, [], ◌∷◌, ◌++◌, refl, None}
use Rattle.ipx_capture.proofs.examples.Words.{typed, zeros}
use Rattle.ipx_recording.specs.Met.{met, block_in, fields_of}
use Rattle.ipx_recording.specs.Recorded.{recorded, begins, is_recording, packets_from}
use Rattle.ipx_recording.proofs.examples.Words.{little_section, little_interface, little_packet, old_packet, unknown, packet}

-- a section, an interface and a packet
pub one : recorded (little_section ++ little_interface 1 ++ little_packet 0) ≡ record { records = packet 1 1 ∷ []; fault = None }
unfolding begins is_recording packets_from met block_in fields_of
one = refl

-- a section alone
pub none : recorded little_section ≡ record { records = []; fault = None }
unfolding begins is_recording packets_from met block_in fields_of
none = refl

-- what is no packet is skipped, and each packet has the link type of its interface
pub two : recorded (little_section ++ little_interface 1 ++ unknown ++ little_interface 9 ++ little_packet 1 ++ unknown ++ little_packet 0)
    ≡ record { records = packet 1 9 ∷ packet 2 1 ∷ []; fault = None }
unfolding begins is_recording packets_from met block_in fields_of
two = refl

-- highest byte first
abbrev pub big : List ℕ
big =
    0x0A ∷ 0x0D ∷ 0x0D ∷ 0x0A ∷ 0 ∷ 0 ∷ 0 ∷ 28 ∷ 0x1A ∷ 0x2B ∷ 0x3C ∷ 0x4D ∷ [] ++ (0 ∷ 1 ∷ 0 ∷ 0 ∷ []) ++ zeros ++ zeros ++ (0 ∷ 0 ∷ 0 ∷ 28 ∷ [])
    ++ (0 ∷ 0 ∷ 0 ∷ 1 ∷ 0 ∷ 0 ∷ 0 ∷ 20 ∷ []) ++ (0 ∷ 1 ∷ 0 ∷ 0 ∷ []) ++ zeros ++ (0 ∷ 0 ∷ 0 ∷ 20 ∷ [])
    ++ (0 ∷ 0 ∷ 0 ∷ 6 ∷ 0 ∷ 0 ∷ 0 ∷ 88 ∷ []) ++ zeros ++ zeros ++ zeros ++ (0 ∷ 0 ∷ 0 ∷ 54 ∷ []) ++ (0 ∷ 0 ∷ 0 ∷ 54 ∷ []) ++ typed ++ (0 ∷ 0 ∷ []) ++ (0 ∷ 0 ∷ 0 ∷ 88 ∷ [])

pub big_end_first : recorded big ≡ record { records = packet 1 1 ∷ []; fault = None }
unfolding begins is_recording packets_from met block_in fields_of
big_end_first = refl

-- a section of the other byte order behind it
pub both_orders : recorded (big ++ little_section ++ little_interface 1 ++ little_packet 0) ≡ record { records = packet 1 1 ∷ packet 2 1 ∷ []; fault = None }
unfolding begins is_recording packets_from met block_in fields_of
both_orders = refl

-- a simple packet of 54 bytes, in a block of 72
pub simple : recorded (little_section ++ little_interface 1 ++ (3 ∷ 0 ∷ 0 ∷ 0 ∷ 72 ∷ 0 ∷ 0 ∷ 0 ∷ []) ++ (54 ∷ 0 ∷ 0 ∷ 0 ∷ []) ++ typed ++ (0 ∷ 0 ∷ []) ++ (72 ∷ 0 ∷ 0 ∷ 0 ∷ []))
    ≡ record { records = packet 1 1 ∷ []; fault = None }
unfolding begins is_recording packets_from met block_in fields_of
simple = refl

-- a packet in the old form
pub old_form : recorded (little_section ++ little_interface 1 ++ old_packet) ≡ record { records = packet 1 1 ∷ []; fault = None }
unfolding begins is_recording packets_from met block_in fields_of
old_form = refl
