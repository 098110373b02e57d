-- The line of a sequenced packet.
use Rattle.std.specs.Prelude.{ℕ, ◌==◌, if◌then◌else◌, List, [], ◌∷◌, ◌++◌, codes, decimal}
use Rattle.std.specs.Int.{to_be_bytes, w16}
use Rattle.hex.specs.Hex.{encode_upper}
use Rattle.ipx_inside.specs.Fields.{flagged}
use Rattle.ipx_inside.specs.declared.spx.Size.{Size}
use Rattle.ipx_inside.specs.declared.spx.Size.TheVariants.{Absent, Cut, Number}
use Rattle.ipx_inside.specs.declared.spx.Spx.{Spx}

-- a word for each bit of the connection control that is set
unfoldable pub control_text : ℕ → List ℕ
control_text control =
    codes "spx control " ++ encode_upper (control ∷ []) ++ flagged control 128 (codes " system") ++ flagged control 64 (codes " acknowledge")
    ++ flagged control 32 (codes " attention") ++ flagged control 16 (codes " end")

-- what the type of the data does to the connection
abbrev pub stream_word : ℕ → List ℕ
stream_word stream = if stream == 0xFE then codes " ends" else if stream == 0xFF then codes " ended" else []

unfoldable pub stream_text : ℕ → List ℕ
stream_text stream = codes " stream " ++ encode_upper (stream ∷ []) ++ stream_word stream

-- both ends, and the numbers
unfoldable pub numbers_text : Spx → List ℕ
numbers_text s =
    codes " source " ++ encode_upper (to_be_bytes w16 s.source) ++ codes " destination " ++ encode_upper (to_be_bytes w16 s.destination)
    ++ codes " sequence " ++ decimal s.sequence ++ codes " acknowledge " ++ decimal s.acknowledge
    ++ codes " allocation " ++ decimal s.allocation

-- ` size N` of SPX II
unfoldable pub size_text : Size → List ℕ
size_text Absent = []
size_text Cut = codes " size cut"
size_text (Number size) = codes " size " ++ decimal size

unfoldable pub spx_text : Spx → List ℕ
spx_text s = control_text s.control ++ stream_text s.stream ++ numbers_text s ++ size_text s.size
