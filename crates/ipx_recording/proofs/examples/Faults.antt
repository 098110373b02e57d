-- Files with a fault.
use Rattle.std.proofs.Common.{◌≡◌, [], ◌∷◌, ◌++◌, refl, take, drop, Some}
use Rattle.ipx_capture.proofs.examples.Words.{typed, zeros}
use Rattle.ipx_recording.specs.Met.{met, block_in, fields_of}
use Rattle.ipx_recording.specs.Recorded.{recorded, begins, is_recording, packets_from}
use Rattle.ipx_recording.specs.declared.recording_fault.RecordingFault.TheVariants.{CutHeader, Magic, Version, BlockLength, NoInterface, LengthAgain, CutBlock}
use Rattle.ipx_recording.proofs.examples.Words.{section_fields, little_section, little_interface, little_packet, packet_fields, packet}

-- a block's length at its end is another: its packet is there
pub again : recorded (little_section ++ little_interface 1 ++ packet_fields 0 ++ typed ++ (0 ∷ 0 ∷ []) ++ (92 ∷ 0 ∷ 0 ∷ 0 ∷ []))
    ≡ record { records = packet 1 1 ∷ []; fault = Some LengthAgain }
unfolding begins is_recording packets_from met block_in fields_of
again = refl

-- the file ends behind a packet's bytes, inside its block, and among its fields
pub cut_behind : recorded (little_section ++ little_interface 1 ++ packet_fields 0 ++ typed) ≡ record { records = packet 1 1 ∷ []; fault = Some CutBlock }
unfolding begins is_recording packets_from met block_in fields_of
cut_behind = refl

pub cut_inside : recorded (little_section ++ little_interface 1 ++ packet_fields 0 ++ take 53 typed) ≡ record { records = []; fault = Some CutBlock }
unfolding begins is_recording packets_from met block_in fields_of
cut_inside = refl

pub cut_fields : recorded (little_section ++ little_interface 1 ++ take 9 (packet_fields 0)) ≡ record { records = []; fault = Some CutBlock }
unfolding begins is_recording packets_from met block_in fields_of
cut_fields = refl

-- a packet of the second interface, where there is one; and of one that the section before described
pub no_interface : recorded (little_section ++ little_interface 1 ++ little_packet 1) ≡ record { records = []; fault = Some NoInterface }
unfolding begins is_recording packets_from met block_in fields_of
no_interface = refl

pub forgotten : recorded (little_section ++ little_interface 1 ++ little_section ++ little_packet 0) ≡ record { records = []; fault = Some NoInterface }
unfolding begins is_recording packets_from met block_in fields_of
forgotten = refl

-- a length that is no multiple of four
pub block_length : recorded (little_section ++ (99 ∷ 0 ∷ 0 ∷ 0 ∷ 17 ∷ 0 ∷ 0 ∷ 0 ∷ []) ++ zeros ++ zeros) ≡ record { records = []; fault = Some BlockLength }
unfolding begins is_recording packets_from met block_in fields_of
block_length = refl

-- too few bytes, another kind of file, and another version
pub cut_header : recorded (take 23 section_fields) ≡ record { records = []; fault = Some CutHeader }
unfolding begins is_recording packets_from met block_in fields_of
cut_header = refl

pub no_recording : recorded (0 ∷ drop 1 section_fields) ≡ record { records = []; fault = Some Magic }
unfolding begins is_recording packets_from met block_in fields_of
no_recording = refl

pub version : recorded (take 12 section_fields ++ (2 ∷ 0 ∷ 0 ∷ 0 ∷ []) ++ zeros ++ zeros) ≡ record { records = []; fault = Some Version }
unfolding begins is_recording packets_from met block_in fields_of
version = refl
