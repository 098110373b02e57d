-- The records of a table after one offer more: those that it doesn't cut, and itself where it is accepted.
-- Only clauses inside the crate speak of it; what a table promises is said by `Stands`.
use Rattle.std.specs.Prelude.{Bool, not, if◌then◌else◌, List, [], ◌∷◌, ◌++◌}
use Rattle.std.specs.List.{filter}
use Rattle.ipx_table.specs.Reading.{Rules}
use Rattle.ipx_table.specs.Facts.{Offered}
use Rattle.ipx_table.specs.Alive.{cuts}
use Rattle.ipx_table.specs.Accepted.{is_accepted}
use Rattle.ipx_table.specs.declared.held.Held.{Held}

-- an offer that has just come
abbrev pub fresh : {O : Type 0} → O → Held O
fresh offer = record { offer = offer; age = 0 }

-- the records that an offer leaves where they are
abbrev pub uncut : {O : Type 0} → Rules O → O → Bool → List (Held O) → List (Held O)
uncut rules offer accepted held = filter (λ h. not (cuts rules offer accepted h.offer)) held

-- the records after the offer; one that is accepted goes last
abbrev pub after_offer : {O : Type 0} → Rules O → List (Held O) → O → List (Held O)
after_offer rules held offer =
    let accepted = is_accepted rules held (Offered offer) in
    uncut rules offer accepted held ++ (if accepted then fresh offer ∷ [] else [])
