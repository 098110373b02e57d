-- Blocks one behind another are read as what they are, and so are whole files.
use Rattle.std.proofs.Common.{◌≡◌, ℕ, List, [], ◌++◌, refl, sym, ap, ◌∙◌, arith, Ok, Some, None, append-nil, append_assoc}
use Rattle.ipx_recording.specs.Chain.{Place, IsBlock, AreBlocks, section, interface, packet, other, none, more}
use Rattle.ipx_recording.specs.Differs.{Differs}
use Rattle.ipx_recording.specs.Met.{met}
use Rattle.ipx_recording.specs.Recorded.{Recorded, Contents, prepend}
use Rattle.ipx_recording.specs.declared.due.Due.TheVariants.{Block}
use Rattle.ipx_recording.specs.declared.met.Met.TheVariants.{Wants}
use Rattle.ipx_recording.specs.declared.recording_fault.RecordingFault.{RecordingFault}
use Rattle.ipx_recording.proofs.Behind.{stands}
use Rattle.ipx_recording.proofs.Packets.{packet_read}
use Rattle.ipx_recording.proofs.Parts.{ended}
use Rattle.ipx_recording.proofs.Refusals.{from, differing}
use Rattle.ipx_recording.proofs.Sizes.{begins_few}
use Rattle.ipx_recording.proofs.Whole.{section_read, interface_read, other_read}

block_read : (here next : Place) (block rest : List ℕ) (first : List Recorded) → IsBlock here block first next → from here (block ++ rest) ≡ prepend first (from next rest)
block_read here _ block rest _ (section {order} is) = section_read here.order here.interfaces here.number rest order block is
block_read here _ block rest _ (interface {i} is room) = interface_read here.order here.interfaces here.number rest i block is room
block_read here _ block rest _ (packet {link} {wire} {bytes} is) = packet_read here.order here.interfaces here.number rest link wire bytes block is
block_read here _ block rest _ (other is) = other_read here.order here.interfaces here.number rest block is

-- packets before others, in two steps
prepend_both : (first later : List Recorded) (c : Contents) → prepend first (prepend later c) ≡ prepend (first ++ later) c
prepend_both first later c = ap (λ (l : List Recorded). record { records = l; fault = c.fault }) (sym (append_assoc first later c.records))

pub blocks_read : (here end : Place) (b tail : List ℕ) (records : List Recorded) → AreBlocks here b records end → from here (b ++ tail) ≡ prepend records (from end tail)
blocks_read here _ _ tail _ none = refl
blocks_read here end _ tail _ (more {next} {block} {rest} {first} {later} is are) =
    ap (from here) (append_assoc block rest tail)
    ∙ block_read here next block (rest ++ tail) first is
    ∙ ap (prepend first) (blocks_read next end rest tail later are)
    ∙ prepend_both first later (from end tail)

nothing_met : (here : Place) → met here.order here.interfaces Block [] ≡ Ok (Wants 8)
unfolding met
nothing_met here = begins_few here.order here.interfaces [] (omega arith)

-- no byte is left
nothing_left : (here : Place) → from here [] ≡ record { records = []; fault = None }
nothing_left here = ended (stands here.order here.interfaces Block) here.number [] 8 (nothing_met here)

pub all_read : (here end : Place) (b : List ℕ) (records : List Recorded) → AreBlocks here b records end → from here b ≡ record { records = records; fault = None }
all_read here end b records are =
    ap (from here) (sym (append-nil b))
    ∙ blocks_read here end b [] records are
    ∙ ap (prepend records) (nothing_left end)
    ∙ ap (λ l. record { records = l; fault = None }) (append-nil records)

pub read_until : (here end : Place) (b rest : List ℕ) (before shown : List Recorded) (fault : RecordingFault) → AreBlocks here b before end → Differs end rest shown fault
    → from here (b ++ rest) ≡ record { records = before ++ shown; fault = Some fault }
read_until here end b rest before shown fault are differs = blocks_read here end b rest before are ∙ ap (prepend before) (differing end rest shown fault differs)
