-- What a table did with an offer, in words.
use Rattle.std.specs.Prelude.{ℕ, if◌then◌else◌, List, codes}
use Rattle.ipx_table.specs.declared.taken.Taken.{Taken}
use Rattle.ipx_table.specs.declared.taken.Taken.TheVariants.{Withdrawn, Nothing, Refreshed, Replaced, Worse, Admitted, Full}

-- one word each
abbrev pub taken_word : Taken → List ℕ
taken_word Withdrawn = codes "withdrawn"
taken_word Nothing = codes "nothing"
taken_word (Refreshed changed) = if changed then codes "changed" else codes "refreshed"
taken_word Replaced = codes "replaced"
taken_word Worse = codes "worse"
taken_word Admitted = codes "admitted"
taken_word Full = codes "full"
