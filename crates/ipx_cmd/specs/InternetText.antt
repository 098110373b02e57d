-- What a run writes of an internet: how far it has settled, and where a packet gets to.
use Rattle.std.specs.Prelude.{ℕ, ◌+◌, if◌then◌else◌, nat_lt, List, [], ◌∷◌, ◌++◌, length, Option, None, Some, codes, decimal}
use Rattle.ipx_router.specs.OutcomeWord.{outcome_word}
use Rattle.ipx_router.specs.WhyWord.{why_word}
use Rattle.ipx_router.specs.declared.outcome.Outcome.{Outcome}
use Rattle.ipx_router.specs.declared.outcome.Outcome.TheVariants.{Forwarded, Propagated, Local, Dropped}
use Rattle.ipx_router.specs.declared.why.Why.{Why}
use Rattle.ipx_internet.specs.Queue.{Delivery}
use Rattle.ipx_internet.specs.Traced.{Traced}
use Rattle.ipx_internet.specs.Tree.{Copy}
use Rattle.ipx_cmd.specs.Output.{drop_text, hex_word}

-- a line that says why an event was dropped, if it was
abbrev pub dropped_text : Option Why → List ℕ
dropped_text (Some why) = drop_text (why_word why)
dropped_text None = []

-- whether deliveries wait, and how many
abbrev pub settled_text : List Delivery → List ℕ
settled_text [] = codes "quiet\n"
settled_text (first ∷ queue) = codes "left " ++ decimal (length (first ∷ queue)) ++ codes "\n"

-- ---- where a packet gets to

-- what became of it at a reception, as a word
abbrev pub became_word : Outcome → List ℕ
became_word Forwarded = codes "Forwarded"
became_word Propagated = codes "Propagated"
became_word Local = codes "Local"
became_word (Dropped why) = why_word why
became_word outcome = outcome_word outcome

-- the number of the reception that sent it on, or `-` for none
abbrev pub parent_word : Option ℕ → List ℕ
parent_word None = codes "-"
parent_word (Some parent) = decimal parent

-- a reception of this number: `copy K PARENT ROUTER PORT OUTCOME HEX`
unfoldable pub copy_words : ℕ → Copy → List ℕ
copy_words number copy =
    codes "copy " ++ decimal number ++ codes " " ++ parent_word copy.parent ++ codes " " ++ decimal copy.to.router ++ codes " " ++ decimal copy.to.port

unfoldable pub copy_text : ℕ → Traced → List ℕ
copy_text number traced =
    copy_words number traced.copy ++ codes " " ++ became_word traced.outcome ++ codes " " ++ hex_word traced.copy.bytes ++ codes "\n"

-- receptions, the first of this number
abbrev pub copies_text : ℕ → List Traced → List ℕ
copies_text number [] = []
copies_text number (traced ∷ more) = copy_text number traced ++ copies_text (number + 1) more

-- all receptions, if they are no more than the limit
abbrev pub trace_text : ℕ → List Traced → List ℕ
trace_text limit copies = if nat_lt limit (length copies) then codes "limit\n" else copies_text 0 copies
