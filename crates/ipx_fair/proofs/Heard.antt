-- A packet that is heard, as a tally counts it.
use Rattle.std.proofs.Common.{◌≡◌, ◌∙◌, sym, ap, ap₂, arith, ℕ, ◌+◌, ◌-◌, ◌^◌, ◌<◌, ◌≤◌, ◌⊎◌, max, Bool, true, List, length, get_or, set, length-set}
use Rattle.ipx_fair.specs.declared.tally.Tally.{Tally}
use Rattle.ipx_fair.specs.Numbers.{most_time, most_speakers}
use Rattle.ipx_fair.specs.Queues.{waits, lowered}
use Rattle.ipx_fair.specs.States.{State}
use Rattle.ipx_fair.specs.Hearing.{hears, hears_from, queue_of, after, Said}
use Rattle.ipx_fair.specs.Tallies.{queues_of, state_of}
use Rattle.ipx_fair.specs.inside.Held.{IsSmall, IsHeld}
use Rattle.ipx_fair.proofs.Queues.{length-lowered, queue_of-lowered, waiting_most}
use Rattle.ipx_fair.proofs.Kept.{by_one, by_own, by_room, state, way, said_kept, total_small}
use Rattle.ipx_fair.proofs.Agreed.{added_queues, agrees_added}

-- what is in memory after it
abbrev pub ends_after : Tally → List ℕ → ℕ → ℕ → ℕ → List ℕ
ends_after t ends k q w = set ends k (t.served + q + w)

abbrev pub IsAdded : Tally → Tally → ℕ → ℕ → Type 0
IsAdded t n q w =
    n ≡ record t { latest = max t.latest (t.served + q + w); total = t.total + w; spare = n.spare; waits = n.waits }

module _ (t : Tally) (ends : List ℕ) (held : IsHeld t ends) where
  long : length (queues_of t ends) ≡ length ends
  long = length-lowered t.served ends

  pub held_total : t.total ≤ 2 ^ 57
  held_total =
      let few : length (queues_of t ends) ≤ most_speakers = omega (arith, long, held.small.speakers) in
      omega (arith, held.agrees.total, total_small (state_of t ends) held.kept held.small.own held.small.reserve held.small.room few)

  pub held_waits : t.waits ≤ most_speakers
  held_waits = omega (arith, held.agrees.waits, waiting_most (queues_of t ends), long, held.small.speakers)

  pub weight_small : (q w : ℕ) → hears t.setting q t.total w ≡ true → q + w ≤ most_time
  weight_small q w heard = elim (way t.setting q t.total w heard) [
    | by_one one ↦ omega (arith, one, held.kept.own_is_more, held.small.own)
    | by_own own all ↦ omega (arith, own, held.small.own)
    | by_room room ↦ omega (arith, room, held.small.room)
  ]

  pub heard_here : (k q w : ℕ) → q ≡ get_or ends k 0 - t.served → hears_from (state_of t ends) k w ≡ true → hears t.setting q t.total w ≡ true
  heard_here k q w is heard =
      let queue : q ≡ queue_of (queues_of t ends) k = is ∙ sym (queue_of-lowered t.served ends k) in
      ap₂ (λ (x y : ℕ). hears t.setting x y w) queue held.agrees.total ∙ heard

  module _ (n : Tally) (k q w : ℕ) (there : k < length ends) (is : q ≡ get_or ends k 0 - t.served)
      (heard : hears_from (state_of t ends) k w ≡ true) (added : IsAdded t n q w) where
    -- the receiver has the packet in its queue
    pub put_state : state_of n (ends_after t ends k q w) ≡ after (state_of t ends) k w true
    put_state =
        let qs = queues_of t ends in
        let served : n.served ≡ t.served = ap (λ (x : Tally). x.served) added in
        let queues : queues_of n (ends_after t ends k q w) ≡ set qs k (queue_of qs k + w) =
        ap (λ (x : ℕ). lowered x (ends_after t ends k q w)) served ∙ added_queues t.served q w k ends is in
        ap (λ (x : Tally). state x.setting x.left (queues_of n (ends_after t ends k q w))) added ∙ ap (λ (xs : List ℕ). state t.setting t.left xs) queues

    put_said : Said k w true (state_of t ends) (state_of n (ends_after t ends k q w))
    put_said = record {
      there = omega (arith, there, long);
      setting = ap (λ (s : State). s.setting) put_state;
      left = ap (λ (s : State). s.left) put_state;
      decided = sym heard;
      queues = ap (λ (s : State). s.queues) put_state;
    }

    small : IsSmall n (ends_after t ends k q w)
    small =
        let setting = ap (λ (x : Tally). x.setting) added in
        let served : n.served ≡ t.served = ap (λ (x : Tally). x.served) added in
        let latest : n.latest ≡ max t.latest (t.served + q + w) = ap (λ (x : Tally). x.latest) added in
        let weight = weight_small q w (heard_here k q w is heard) in
        record {
          own = rw setting held.small.own;
          reserve = rw setting held.small.reserve;
          room = rw setting held.small.room;
          speakers = omega (arith, length-set ends k (t.served + q + w), held.small.speakers);
          served = omega (arith, served, held.small.served);
          latest = omega (arith, latest, weight, held.small.served, held.small.latest);
        }

    pub put_held : n.waits + waits q ≡ t.waits + waits (q + w) → n.spare ≤ t.spare → (q + w ≡ 0) ⊎ (n.spare < q + w) → IsHeld n (ends_after t ends k q w)
    put_held wait less spares = record {
      agrees = agrees_added t n ends k q w held.agrees there is added wait less spares;
      kept = said_kept k w true (state_of t ends) (state_of n (ends_after t ends k q w)) held.kept put_said;
      small = small;
    }

-- what a speaker said, where the receiver is after it what it is to be
pub said_from : (k w : ℕ) (heard : Bool) (old new : State) → k < length old.queues → heard ≡ hears_from old k w → new ≡ after old k w heard → Said k w heard old new
said_from k w heard old new there decided is = record {
  there = there;
  setting = ap (λ (s : State). s.setting) is;
  left = ap (λ (s : State). s.left) is;
  decided = decided;
  queues = ap (λ (s : State). s.queues) is;
}
