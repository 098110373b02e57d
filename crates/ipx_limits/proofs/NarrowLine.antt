-- What follows of the rules of a narrow line: in any time no more than so much, and who comes first.
use Rattle.std.proofs.Common.{◌≡◌, refl, ap, arith, ℕ, ◌+◌, ◌-◌, ◌*◌, ◌/◌, ◌<◌, ◌≤◌, ◌⊎◌, inl, inr, min, max, Bool, true, false, if◌then◌else◌, List, [], ◌∷◌}
use Rattle.std.proofs.Math.Nat.{div-mul-le_self, mul-le-mul_left}
use Rattle.std.proofs.lemmas.Nat.{le-div}
use Rattle.std.proofs.lemmas.Bool.{both_ways, leb-true, le-leb}
use Rattle.ipx_limits.specs.declared.line.Line.{Line}
use Rattle.ipx_limits.specs.declared.line_room.LineUse.{LineUse}
use Rattle.ipx_limits.specs.declared.rank.Rank.{Rank}
use Rattle.ipx_limits.specs.declared.rank.Rank.TheVariants.{Beyond, OfAddress, OfSpeaker, Little, Within}
use Rattle.ipx_limits.specs.Numbers.{line_longest, line_headers, byte_by_kilobit, tenths, tenths_used, own_at_once}
use Rattle.ipx_limits.specs.LineParts.{cost, longest}
use Rattle.ipx_limits.specs.LineRoom.{most_room, room_of, has_room}
use Rattle.ipx_limits.specs.LineLaws.{Busy, quiet, Event, Passing, Copies, Own, ToStranger, busy_then, Copied, Runs, elapsed, copied, comes_first, room_behind, fill_by, Stranger, Waits, Sends, StrangersRun, waited, sent}

-- ---- what packets take

divides_less : (x y k : ℕ) → 0 < k → x ≤ y → x / k ≤ y / k
divides_less x y k some less = le-div (x / k) y k some (omega (arith, div-mul-le_self x k, less))

pub cost_less : (line : Line) (bytes more : ℕ) → min bytes line_longest ≤ min more line_longest → cost line bytes ≤ cost line more
cost_less line bytes more less =
    divides_less ((min bytes line_longest + line_headers) * (byte_by_kilobit * tenths)) ((min more line_longest + line_headers) * (byte_by_kilobit * tenths))
    (tenths_used * max 1 line.kilobits) (omega arith) (omega (arith, less))

pub cost_most : (line : Line) (bytes : ℕ) → cost line bytes ≤ longest line
cost_most line bytes = cost_less line bytes line_longest (omega arith)

room_most : (line : Line) (rank : Rank) → room_of line rank ≤ most_room line
room_most line Beyond = omega arith
room_most line OfAddress = omega arith
room_most line OfSpeaker = omega arith
room_most line Little = omega arith
room_most line Within = omega arith

module _ (line : Line) (speak_to : List ℕ) where
  -- what went out found room
  pub found : (address speaker bytes : ℕ) (rank : Rank) (goes : Bool) (old new : Busy) → Copied line speak_to address speaker bytes rank goes old new → goes ≡ true
      → old.line ≤ room_of line rank
  found address speaker bytes rank goes old new c goes_out =
      let room : c.used.line ≤ room_of line rank = leb-true c.used.line (room_of line rank) (c.room goes_out) in
      omega (arith, room, c.is_of_line)

  -- ---- in any time no more than so much

  bounded : (old new : Busy) (events : List Event) (copies : ℕ) → Runs line speak_to old events new → copies ≤ old.line
      → copies ≤ most_room line + longest line → copied line events + copies ≤ elapsed events + most_room line + longest line
  bounded old new [] copies run less few = omega (arith, few)
  bounded old new (Passing ns ∷ events) copies run less few =
      let next : run.0.line ≡ old.line - ns = ap (λ (b : Busy). b.line) run.1 in
      omega (arith, bounded run.0 new events (copies - ns) run.2 (omega (arith, next, less)) (omega (arith, few)))
  bounded old new (Copies address speaker bytes rank true ∷ events) copies run less few =
      let room = found address speaker bytes rank true old run.0 run.1 refl in
      let most = cost_most line bytes in
      let within : old.line ≤ most_room line = omega (arith, room, room_most line rank) in
      let next : run.0.line ≡ busy_then line bytes old.line = run.1.line_then in
      omega (arith, bounded run.0 new events (copies + cost line bytes) run.2 (omega (arith, next, within, most, less)) (omega (arith, within, most, less)))
  bounded old new (Copies address speaker bytes rank false ∷ events) copies run less few =
      let next : run.0.line ≡ old.line = run.1.line_then in
      omega (arith, bounded run.0 new events copies run.2 (omega (arith, next, less)) few)
  bounded old new (Own bytes ∷ events) copies run less few =
      let next : run.0.line ≡ busy_then line bytes old.line = ap (λ (b : Busy). b.line) run.1 in
      omega (arith, bounded run.0 new events copies run.2 (omega (arith, next, less, few)) few)
  bounded old new (ToStranger bytes ∷ events) copies run less few =
      let next : run.0.line ≡ busy_then line bytes old.line = ap (λ (b : Busy). b.line) run.1.is_new in
      omega (arith, bounded run.0 new events copies run.2 (omega (arith, next, less, few)) few)

  pub bound : (old new : Busy) (events : List Event) → Runs line speak_to old events new → copied line events ≤ elapsed events + most_room line + longest line
  bound old new events run = omega (arith, bounded old new events 0 run (omega arith) (omega arith))

-- ---- strangers

parts_more : (parts one others : ℕ) → parts * (one + others) ≡ parts * one + parts * others
parts_more parts one others = omega arith

module _ (line : Line) (parts most : ℕ) where
  strangers_used : (old new : ℕ) (events : List Stranger) → StrangersRun line parts most old events new → old ≤ most + parts * longest line
      → (parts * sent line events + old ≤ waited events + new) × (new ≤ most + parts * longest line)
  strangers_used old new [] run few = (omega (arith, run), omega (arith, run, few))
  strangers_used old new (Waits ns ∷ events) run few =
      let rest = strangers_used run.0 new events run.2 (omega (arith, run.1, few)) in
      (omega (arith, rest.0, run.1), rest.1)
  strangers_used old new (Sends bytes true ∷ events) run few =
      let room : old ≤ most = leb-true old most (run.1.room refl) in
      let cost_of = mul-le-mul_left parts (cost_most line bytes) in
      let rest = strangers_used run.0 new events run.2 (omega (arith, run.1.used, room, cost_of)) in
      (omega (arith, rest.0, run.1.used, parts_more parts (cost line bytes) (sent line events)), rest.1)
  strangers_used old new (Sends bytes false ∷ events) run few =
      let rest = strangers_used run.0 new events run.2 (omega (arith, run.1.used, few)) in
      (omega (arith, rest.0, run.1.used), rest.1)

  pub strangers_most : (old new : ℕ) (events : List Stranger) → StrangersRun line parts most old events new → old ≤ most
      → parts * sent line events ≤ waited events + most + parts * longest line
  strangers_most old new events run few =
      let used = strangers_used old new events run (omega (arith, few)) in
      omega (arith, used.0, used.1)

-- ---- who comes first doesn't wait for others

first_or_behind : (line : Line) (rank other : Rank) → (comes_first other rank ≡ true) ⊎ (room_of line other ≤ room_behind rank)
first_or_behind line Beyond Beyond = inl refl
first_or_behind line Beyond OfAddress = inl refl
first_or_behind line Beyond OfSpeaker = inl refl
first_or_behind line Beyond Little = inl refl
first_or_behind line Beyond Within = inl refl
first_or_behind line OfAddress Beyond = inr (omega arith)
first_or_behind line OfAddress OfAddress = inl refl
first_or_behind line OfAddress OfSpeaker = inl refl
first_or_behind line OfAddress Little = inl refl
first_or_behind line OfAddress Within = inl refl
first_or_behind line OfSpeaker Beyond = inr (omega arith)
first_or_behind line OfSpeaker OfAddress = inr (omega arith)
first_or_behind line OfSpeaker OfSpeaker = inl refl
first_or_behind line OfSpeaker Little = inl refl
first_or_behind line OfSpeaker Within = inl refl
first_or_behind line Little Beyond = inr (omega arith)
first_or_behind line Little OfAddress = inr (omega arith)
first_or_behind line Little OfSpeaker = inr (omega arith)
first_or_behind line Little Little = inl refl
first_or_behind line Little Within = inl refl
first_or_behind line Within Beyond = inr (omega arith)
first_or_behind line Within OfAddress = inr (omega arith)
first_or_behind line Within OfSpeaker = inr (omega arith)
first_or_behind line Within Little = inl refl
first_or_behind line Within Within = inl refl

abbrev nat_of : Bool → ℕ
nat_of true = 1
nat_of false = 0

-- a copy fills the bucket, or found the line short
filled : (b : Bool) (bucket taken most busy behind room next : ℕ) → (b ≡ true) ⊎ (room ≤ behind) → busy ≤ room → busy ≤ behind + most + bucket
    → next ≤ busy + taken → taken ≤ most → next ≤ behind + most + (if b then bucket + taken else bucket)
filled true bucket taken most busy behind room next or short_of within less few = omega (arith, within, less)
filled false bucket taken most busy behind room next (inl is) short_of within less few = omega (arith, ap (λ (b : Bool). nat_of b) is)
filled false bucket taken most busy behind room next (inr short) short_of within less few = omega (arith, short_of, short, less, few)

module _ (line : Line) (speak_to : List ℕ) (rank : Rank) where
  pub busy_by : (old new : Busy) (events : List Event) (bucket : ℕ) → Runs line speak_to old events new
      → old.line ≤ room_behind rank + longest line + bucket → new.line ≤ room_behind rank + longest line + fill_by line rank bucket events
  busy_by old new [] bucket run within = omega (arith, within, ap (λ (b : Busy). b.line) run)
  busy_by old new (Passing ns ∷ events) bucket run within =
      let next : run.0.line ≡ old.line - ns = ap (λ (b : Busy). b.line) run.1 in
      busy_by run.0 new events (bucket - ns) run.2 (omega (arith, next, within))
  busy_by old new (Copies address speaker bytes other true ∷ events) bucket run within =
      let next : run.0.line ≡ busy_then line bytes old.line = run.1.line_then in
      busy_by run.0 new events (if comes_first other rank then bucket + cost line bytes else bucket) run.2
      (
      filled (comes_first other rank) bucket (cost line bytes) (longest line) old.line (room_behind rank) (room_of line other) run.0.line
      (first_or_behind line rank other) (found line speak_to address speaker bytes other true old run.0 run.1 refl) within (omega (arith, next)) (cost_most line bytes)
      )
  busy_by old new (Copies address speaker bytes other false ∷ events) bucket run within =
      let next : run.0.line ≡ old.line = run.1.line_then in
      busy_by run.0 new events bucket run.2 (omega (arith, next, within))
  busy_by old new (Own bytes ∷ events) bucket run within =
      let next : run.0.line ≡ busy_then line bytes old.line = ap (λ (b : Busy). b.line) run.1 in
      busy_by run.0 new events (bucket + cost line bytes) run.2 (omega (arith, next, within))
  busy_by old new (ToStranger bytes ∷ events) bucket run within =
      let next : run.0.line ≡ busy_then line bytes old.line = ap (λ (b : Busy). b.line) run.1.is_new in
      busy_by run.0 new events (bucket + cost line bytes) run.2 (omega (arith, next, within))

  pub first_heard : (new : Busy) (speak : ℕ) (events : List Event) (used : LineUse) → Runs line speak_to (quiet speak speak_to) events new
      → used.line ≡ new.line → room_behind rank + longest line + fill_by line rank 0 events ≤ room_of line rank → has_room line rank used ≡ true
  first_heard new speak events used run same fits =
      le-leb used.line (room_of line rank) (omega (arith, same, fits, busy_by (quiet speak speak_to) new events 0 run (omega arith)))

-- ---- and finds more room

most_of_all : (line : Line) (rank : Rank) → room_of line rank ≤ most_room line
most_of_all line Beyond = omega arith
most_of_all line OfAddress = omega arith
most_of_all line OfSpeaker = omega arith
most_of_all line Little = omega arith
most_of_all line Within = omega arith

pub more_room : (line : Line) (rank other : Rank) → comes_first rank other ≡ true → room_of line other ≤ room_of line rank
more_room line Beyond Beyond e = omega arith
more_room line Beyond OfAddress e = absurd (both_ways false refl e)
more_room line Beyond OfSpeaker e = absurd (both_ways false refl e)
more_room line Beyond Little e = absurd (both_ways false refl e)
more_room line Beyond Within e = absurd (both_ways false refl e)
more_room line OfAddress Beyond e = omega arith
more_room line OfAddress OfAddress e = omega arith
more_room line OfAddress OfSpeaker e = absurd (both_ways false refl e)
more_room line OfAddress Little e = absurd (both_ways false refl e)
more_room line OfAddress Within e = absurd (both_ways false refl e)
more_room line OfSpeaker Beyond e = omega arith
more_room line OfSpeaker OfAddress e = omega arith
more_room line OfSpeaker OfSpeaker e = omega arith
more_room line OfSpeaker Little e = absurd (both_ways false refl e)
more_room line OfSpeaker Within e = absurd (both_ways false refl e)
more_room line Little other e = most_of_all line other
more_room line Within other e = most_of_all line other
