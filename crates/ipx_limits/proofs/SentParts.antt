-- What goes out by a narrow line takes its part of what is used then.
use Rattle.std.proofs.Common.{◌≡◌, ◌∙◌, refl, ap, arith, ℕ, ◌+◌, ◌*◌, ◌^◌, ◌<◌, min, Bool, true, false, ◌&&◌, nat_le, if◌then◌else◌, length, get_or}
use Rattle.std.proofs.lemmas.Bool.{and_parts}
use Rattle.std.proofs.lemmas.List.{get_or-set_same}
use Rattle.ipx_limits.specs.declared.line.Line.{Line}
use Rattle.ipx_limits.specs.declared.line.LineAddress.{LineAddress}
use Rattle.ipx_limits.specs.declared.rank.Rank.{Rank}
use Rattle.ipx_limits.specs.Numbers.{own_at_once}
use Rattle.ipx_limits.specs.LineParts.{ahead, from_now, cost, receivers, pairs, pair_cost, said_cost}
use Rattle.ipx_limits.specs.LineRoom.{place_of, most_room, most_used, line_after, taken, is_little, is_of_part, is_spoken, is_received, LineSent, own_cost, lets_stranger, most_of_one, stranger_after}
use Rattle.ipx_limits.specs.LineLaws.{busy_then}

-- a moment so many nanoseconds from now on
set_moment : (now nanoseconds : ℕ) → now + nanoseconds < 2 ^ 64 → ahead now (from_now now nanoseconds) ≡ nanoseconds
set_moment now nanoseconds small = omega (arith, small)

pub line_used : (now bytes : ℕ) (line : Line) → now + most_used line < 2 ^ 64 → ahead now (line_after now line bytes).used ≡ busy_then line bytes (ahead now line.used)
line_used now bytes line small = set_moment now (min (ahead now line.used + cost line bytes) (most_used line)) (omega (arith, small))

pub taken_then : (now : ℕ) (takes : Bool) (nanoseconds moment : ℕ) → now + (ahead now moment + nanoseconds) < 2 ^ 64
    → ahead now (taken now takes nanoseconds moment) ≡ (if takes then ahead now moment + nanoseconds else ahead now moment)
taken_then now true nanoseconds moment small = set_moment now (ahead now moment + nanoseconds) small
taken_then now false nanoseconds moment small = refl

module _ (now number bytes : ℕ) (rank : Rank) (old new : Line) (said said_then : ℕ) (to to_then : LineAddress)
    (s : LineSent now number bytes rank old new said said_then to to_then) where
  pub of_line : now + most_used old < 2 ^ 64 → ahead now new.used ≡ busy_then old bytes (ahead now old.used)
  of_line small = ap (λ (l : Line). ahead now l.used) s.of_line ∙ line_used now bytes old small

  pub of_said : now + (ahead now said + said_cost old bytes) < 2 ^ 64
      → ahead now said_then ≡ (if is_little rank then ahead now said + said_cost old bytes else ahead now said)
  of_said small = ap (ahead now) s.of_speaker ∙ taken_then now (is_little rank) (said_cost old bytes) said small

  pub of_within : place_of number < length to.within → now + (ahead now (get_or to.within (place_of number) 0) + pair_cost old to bytes) < 2 ^ 64
      → ahead now (get_or to_then.within (place_of number) 0)
      ≡ (if is_of_part rank then ahead now (get_or to.within (place_of number) 0) + pair_cost old to bytes else ahead now (get_or to.within (place_of number) 0))
  of_within there small =
      let k = place_of number in
      let moment = get_or to.within k 0 in
      ap (λ (a : LineAddress). ahead now (get_or a.within k 0)) s.of_address
      ∙ ap (ahead now) (get_or-set_same to.within k (taken now (is_of_part rank) (pair_cost old to bytes) moment) 0 there)
      ∙ taken_then now (is_of_part rank) (pair_cost old to bytes) moment small

  pub of_spoken : place_of number < length to.spoken → now + (ahead now (get_or to.spoken (place_of number) 0) + pairs old to * cost old bytes) < 2 ^ 64
      → ahead now (get_or to_then.spoken (place_of number) 0)
      ≡ (if is_spoken rank then ahead now (get_or to.spoken (place_of number) 0) + pairs old to * cost old bytes else ahead now (get_or to.spoken (place_of number) 0))
  of_spoken there small =
      let k = place_of number in
      let moment = get_or to.spoken k 0 in
      ap (λ (a : LineAddress). ahead now (get_or a.spoken k 0)) s.of_address
      ∙ ap (ahead now) (get_or-set_same to.spoken k (taken now (is_spoken rank) (pairs old to * cost old bytes) moment) 0 there)
      ∙ taken_then now (is_spoken rank) (pairs old to * cost old bytes) moment small

  pub of_received : now + (ahead now to.received + receivers old * cost old bytes) < 2 ^ 64
      → ahead now to_then.received ≡ (if is_received rank then ahead now to.received + receivers old * cost old bytes else ahead now to.received)
  of_received small =
      ap (λ (a : LineAddress). ahead now a.received) s.of_address
      ∙ taken_then now (is_received rank) (receivers old * cost old bytes) to.received small

pub of_strangers : (now bytes address : ℕ) (line : Line) → lets_stranger now line address ≡ true → now + (ahead now line.to_strangers + own_cost line bytes) < 2 ^ 64
    → (nat_le (ahead now line.to_strangers) own_at_once ≡ true) × (nat_le (ahead now address) (most_of_one line) ≡ true)
    × (ahead now (stranger_after now line bytes).to_strangers ≡ ahead now line.to_strangers + own_cost line bytes)
of_strangers now bytes address line lets small =
    let both = (and_parts (nat_le (ahead now line.to_strangers) own_at_once && nat_le (ahead now address) (most_of_one line)) (nat_le (ahead now line.used) (most_room line)) lets).0 in
    let each = and_parts (nat_le (ahead now line.to_strangers) own_at_once) (nat_le (ahead now address) (most_of_one line)) both in
    (each.0, each.1, taken_then now true (own_cost line bytes) line.to_strangers small)
