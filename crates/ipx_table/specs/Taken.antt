-- What a table answers to an offer.
use Rattle.std.specs.Prelude.{nat_lt, Bool, true, false, not, ◌&&◌, if◌then◌else◌, List, length, Option, None, Some}
use Rattle.std.specs.List.{find}
use Rattle.ipx_table.specs.Reading.{Rules, same_key}
use Rattle.ipx_table.specs.Facts.{Fact}
use Rattle.ipx_table.specs.Alive.{alive}
use Rattle.ipx_table.specs.Accepted.{marked, has_share, may_replace}
use Rattle.ipx_table.specs.declared.held.Held.{Held}
use Rattle.ipx_table.specs.declared.taken.Taken.{Taken}
use Rattle.ipx_table.specs.declared.taken.Taken.TheVariants.{Withdrawn, Nothing, Refreshed, Replaced, Worse, Admitted, Full}

-- the alive offer of an offer's key
abbrev pub known_of : {O : Type 0} → Rules O → List (Held O) → O → Option (Held O)
known_of rules held offer = find (λ h. same_key rules.by_key h.offer offer) held

-- the offer that a key is left with by that answer to an offer of it, by the one that it had before
abbrev pub offer_left : {O : Type 0} → Taken → Option O → O → Option O
offer_left Withdrawn before offer = None
offer_left Nothing before offer = before
offer_left (Refreshed changed) before offer = Some offer
offer_left Replaced before offer = Some offer
offer_left Worse before offer = before
offer_left Admitted before offer = Some offer
offer_left Full before offer = before

-- the answer says that the key has another offer than before
abbrev pub is_change : Taken → Bool
is_change Withdrawn = true
is_change Nothing = false
is_change (Refreshed changed) = changed
is_change Replaced = true
is_change Worse = false
is_change Admitted = true
is_change Full = false

-- a key has no offer before and after, or two that its type takes for the same
abbrev pub same_left : {O : Type 0} → (O → O → Bool) → Option O → Option O → Bool
same_left same None None = true
same_left same None (Some after) = false
same_left same (Some before) None = false
same_left same (Some before) (Some after) = same before after

module _ {O : Type 0} (rules : Rules O) (same_offer : O → O → Bool) where
  -- to an offer that is down: only the source of the alive offer withdraws it
  abbrev pub taken_down : O → Option (Held O) → Taken
  taken_down offer None = Nothing
  taken_down offer (Some h) = if rules.same_source h.offer offer then Withdrawn else Nothing

  -- to an offer that is up: rank is judged before the share
  abbrev pub taken_up : List (Held O) → O → Option (Held O) → Taken
  taken_up held offer None = if nat_lt (length held) rules.capacity && has_share rules offer held then Admitted else Full
  taken_up held offer (Some h) =
      if rules.same_source h.offer offer then Refreshed (not (same_offer h.offer offer))
      else if not (rules.is_worse h.offer offer) then Worse
      else if may_replace rules offer held h then Replaced
      else Full

  -- to an offer, where that is the alive offer of its key
  abbrev pub taken_beside : List (Held O) → O → Option (Held O) → Taken
  taken_beside held offer known = if rules.is_down offer then taken_down offer known else taken_up held offer known

  -- to an offer, where those are alive
  abbrev pub taken_over : List (Held O) → O → Taken
  taken_over held offer = taken_beside held offer (known_of rules held offer)

  -- to an offer, after the facts
  abbrev pub taken : List (Fact O) → O → Taken
  taken facts offer = taken_over (alive rules (marked rules facts)) offer
