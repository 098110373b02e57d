-- The text of whole captures.
use Rattle.std.proofs.Common.{◌≡◌, ℕ, true, false, List, [], ◌∷◌, ◌++◌, codes, refl, take, drop}
use Rattle.std.specs.Fmt.{digits}
use Rattle.hex.specs.Hex.{encode_with}
use Rattle.ipx_wire.specs.Address.{address_at}
use Rattle.ipx_wire.specs.Header.{header_at}
use Rattle.ipx_wire.specs.Items.{items}
use Rattle.ipx_wire.specs.Packet.{packet_of}
use Rattle.ipx_wire.specs.Rip.{rip_of, entry_at}
use Rattle.ipx_capture.specs.Header.{header_of}
use Rattle.ipx_capture.specs.Records.{first_record}
use Rattle.ipx_recording.specs.Recorded.{is_recording}
use Rattle.ipx_capture.proofs.examples.OneRecord.{big}
use Rattle.ipx_capture.proofs.examples.Words.{zeros, little, little_magic, little_header, little_fields}
use Rattle.ipx_wire.specs.AddressWord.{address_word}
use Rattle.ipx_cmd.specs.PacketText.{packet_text, header_text, ends_text, counts_text, data_text}
use Rattle.ipx_cmd.specs.RecordText.{record_text, frame_text}
use Rattle.ipx_cmd.specs.RipText.{rip_text, route_entry_text}
use Rattle.ipx_cmd.specs.Shown.{shown, shown_end, sofar, judged, capture_fault_text}
use Rattle.ipx_cmd.specs.declared.ended.Ended.TheVariants.{Done, BadInput}

-- the three lines of the one record of these files
abbrev pub one_text : List ℕ
one_text =
    codes "record 1 EthernetII 00000010.0000000000AA.0453 00000010.FFFFFFFFFFFF.0453 tc 0 type 1 length 40\n"
    ++ codes "rip request\n"
    ++ codes "net FFFFFFFF hops 65535 ticks 65535\n"

-- lowest byte first
pub little_end_first : shown little ≡ one_text
unfolding shown is_recording header_of first_record encode_with digits record_text frame_text packet_of header_at address_at packet_text header_text ends_text counts_text address_word data_text rip_of items entry_at rip_text route_entry_text
little_end_first = refl

pub little_done : shown_end little ≡ Done
unfolding shown_end is_recording header_of first_record
little_done = refl

-- highest byte first
pub big_end_first : shown big ≡ one_text
unfolding shown is_recording header_of first_record encode_with digits record_text frame_text packet_of header_at address_at packet_text header_text ends_text counts_text address_word data_text rip_of items entry_at rip_text route_entry_text
big_end_first = refl

-- ten further bytes are told as the second record, which is cut; what stands so far is the first
abbrev pub ten_more : List ℕ
ten_more = little ++ take 10 (zeros ++ zeros ++ zeros)

pub cut_shown : shown ten_more ≡ one_text ++ codes "record 2: CutRecord\n"
unfolding shown is_recording header_of first_record encode_with digits record_text frame_text packet_of header_at address_at packet_text header_text ends_text counts_text address_word data_text rip_of items entry_at rip_text route_entry_text capture_fault_text
cut_shown = refl

pub cut_end : shown_end ten_more ≡ BadInput
unfolding shown_end is_recording header_of first_record
cut_end = refl

pub cut_sofar : sofar ten_more ≡ one_text
unfolding sofar is_recording header_of first_record encode_with digits record_text frame_text packet_of header_at address_at packet_text header_text ends_text counts_text address_word data_text rip_of items entry_at rip_text route_entry_text
cut_sofar = refl

pub cut_open : judged ten_more ≡ false
unfolding judged is_recording header_of first_record
cut_open = refl

-- a header alone, and no bytes
pub none_shown : shown little_header ≡ []
unfolding shown is_recording header_of first_record
none_shown = refl

pub none_done : shown_end little_header ≡ Done
unfolding shown_end is_recording header_of first_record
none_done = refl

pub no_bytes : shown [] ≡ codes "record 0: CutHeader\n"
unfolding shown is_recording header_of digits capture_fault_text
no_bytes = refl

pub no_bytes_sofar : sofar [] ≡ []
unfolding sofar is_recording header_of
no_bytes_sofar = refl

-- another magic, version and link type are told of the header, and so far too
pub other_magic : shown (0 ∷ drop 1 little) ≡ codes "record 0: Magic\n"
unfolding shown is_recording header_of digits capture_fault_text
other_magic = refl

pub other_version : sofar (little_magic ++ little_fields 3 1) ≡ codes "record 0: Version\n"
unfolding sofar is_recording header_of digits capture_fault_text
other_version = refl

pub other_link : sofar (little_magic ++ little_fields 2 0) ≡ codes "record 0: Link\n"
unfolding sofar is_recording header_of digits capture_fault_text
other_link = refl

-- a record that is too long is told as soon as its header is there
abbrev pub long_record : List ℕ
long_record = little_header ++ zeros ++ zeros ++ (1 ∷ 0 ∷ 4 ∷ 0 ∷ []) ++ zeros

pub long_sofar : sofar long_record ≡ codes "record 1: RecordLong\n"
unfolding sofar is_recording header_of first_record digits capture_fault_text
long_sofar = refl

pub long_judged : judged long_record ≡ true
unfolding judged is_recording header_of first_record
long_judged = refl
