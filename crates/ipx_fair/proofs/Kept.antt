-- What is so of a state is so of the next one.
use Rattle.std.proofs.Common.{◌≡◌, ◌∙◌, refl, sym, ap, subst, arith, ℕ, ◌+◌, ◌*◌, ◌^◌, ◌<◌, ◌≤◌, ◌⊎◌, inl, inr, Bool, true, false, ◌&&◌, ◌||◌, nat_le, List, length, replicate, set, length-set}
use Rattle.std.proofs.Math.Nat.{mul-le-mul}
use Rattle.std.proofs.lemmas.Bool.{or_cases, and_parts, leb-true}
use Rattle.ipx_fair.specs.declared.setting.Setting.{Setting}
use Rattle.ipx_fair.specs.Numbers.{most_time, most_speakers}
use Rattle.ipx_fair.specs.Queues.{total, waiting, beyond}
use Rattle.ipx_fair.specs.States.{State, empty}
use Rattle.ipx_fair.specs.Serving.{Passed}
use Rattle.ipx_fair.specs.Hearing.{hears, queue_of, Said}
use Rattle.ipx_fair.specs.Keeping.{IsKept}
use Rattle.ipx_fair.proofs.Queues.{waits_is, waiting_most, total-replicate, lowered-replicate, served_most, total_fewer, total-set, waiting-set, beyond-set}
use Rattle.ipx_fair.proofs.Served.{served_beyond, served_few_left, served_long}

-- ---- the ways of being heard

pub data Way (setting : Setting) (queue all weight : ℕ) : Type 0 where
  by_one : queue + weight ≤ setting.one → Way setting queue all weight
  by_own : queue + weight ≤ setting.own → all + weight ≤ setting.room + setting.reserve → Way setting queue all weight
  by_room : queue + all + weight ≤ setting.room → Way setting queue all weight

pub way : (setting : Setting) (queue all weight : ℕ) → hears setting queue all weight ≡ true → Way setting queue all weight
way setting queue all weight is =
    elim (or_cases (nat_le (queue + weight) setting.one || (nat_le (queue + weight) setting.own && nat_le (all + weight) (setting.room + setting.reserve))) _ is) [
      | inl near ↦ elim (or_cases (nat_le (queue + weight) setting.one) _ near) [
        | inl one ↦ by_one (leb-true _ _ one)
        | inr own ↦ let both = and_parts (nat_le (queue + weight) setting.own) _ own in by_own (leb-true _ _ both.0) (leb-true _ _ both.1)
      ]
      | inr room ↦ by_room (leb-true _ _ room)
    ]

-- ---- after a packet

-- what queues have beyond a part, after one of them grew
beyond_within : (part : ℕ) (qs : List ℕ) (k w : ℕ) → k < length qs → queue_of qs k + w ≤ part → beyond part (set qs k (queue_of qs k + w)) ≡ beyond part qs
beyond_within part qs k w there within = omega (arith, beyond-set part qs k (queue_of qs k + w) there, within)

beyond_by : (part : ℕ) (qs : List ℕ) (k w : ℕ) → k < length qs → beyond part (set qs k (queue_of qs k + w)) ≤ total qs + w
beyond_by part qs k w there =
    omega (arith, total_fewer part (set qs k (queue_of qs k + w)), total-set qs k (queue_of qs k + w) there)

waiting_more : (qs : List ℕ) (k w : ℕ) → k < length qs → waiting qs ≤ waiting (set qs k (queue_of qs k + w))
waiting_more qs k w there = elim (waits_is (queue_of qs k)) [
  | inl none ↦ omega (arith, waiting-set qs k (queue_of qs k + w) there, none.1)
  | inr some ↦ elim (waits_is (queue_of qs k + w)) [
    | inl never ↦ absurd (omega (arith, never.0, some.0))
    | inr still ↦ omega (arith, waiting-set qs k (queue_of qs k + w) there, some.1, still.1)
  ]
]

abbrev pub state : Setting → ℕ → List ℕ → State
state setting left queues = record { setting = setting; left = left; queues = queues }

kept_after : (setting : Setting) (left : ℕ) (qs : List ℕ) (k w : ℕ) → k < length qs → IsKept (state setting left qs)
    → Way setting (queue_of qs k) (total qs) w → IsKept (state setting left (set qs k (queue_of qs k + w)))
kept_after setting left qs k w there kept how =
    let more = waiting_more qs k w there in
    let few : (left ≡ 0) ⊎ (left < waiting (set qs k (queue_of qs k + w))) =
    elim kept.few_left [ inl none ↦ inl none | inr some ↦ inr (omega (arith, some, more)) ] in
    let own_by : beyond setting.own (set qs k (queue_of qs k + w)) ≤ total qs + w = beyond_by setting.own qs k w there in
    let one_by : beyond setting.one (set qs k (queue_of qs k + w)) ≤ total qs + w = beyond_by setting.one qs k w there in
    elim how [
      | by_one one ↦ record {
        own_is_more = kept.own_is_more;
        few_left = few;
        fits = omega (arith, kept.fits, beyond_within setting.own qs k w there (omega (arith, one, kept.own_is_more)));
        tight = omega (arith, kept.tight, beyond_within setting.one qs k w there one);
      }
      | by_own own all ↦ record {
        own_is_more = kept.own_is_more;
        few_left = few;
        fits = omega (arith, kept.fits, beyond_within setting.own qs k w there own);
        tight = omega (arith, all, one_by);
      }
      | by_room room ↦ record {
        own_is_more = kept.own_is_more;
        few_left = few;
        fits = omega (arith, room, own_by);
        tight = omega (arith, room, one_by);
      }
    ]

-- the same of a state that has those values
kept_from : (s : State) (setting : Setting) (left : ℕ) (queues : List ℕ) → s.setting ≡ setting → s.left ≡ left → s.queues ≡ queues
    → IsKept (state setting left queues) → IsKept s
kept_from s setting left queues a b c kept =
    subst (λ (x : Setting). IsKept (state x s.left s.queues)) (sym a)
    (subst (λ (x : ℕ). IsKept (state setting x s.queues)) (sym b) (subst (λ (x : List ℕ). IsKept (state setting left x)) (sym c) kept))

pub said_kept : (k w : ℕ) (heard : Bool) (old new : State) → IsKept old → Said k w heard old new → IsKept new
said_kept k w true old new kept said =
    let how = way old.setting (queue_of old.queues k) (total old.queues) w (sym said.decided) in
    kept_from new old.setting old.left (set old.queues k (queue_of old.queues k + w)) said.setting said.left said.queues
    (kept_after old.setting old.left old.queues k w said.there kept how)
said_kept k w false old new kept said = kept_from new old.setting old.left old.queues said.setting said.left said.queues kept

pub said_long : (k w : ℕ) (heard : Bool) (old new : State) → Said k w heard old new → length new.queues ≡ length old.queues
said_long k w true old new said = ap length said.queues ∙ length-set old.queues k (queue_of old.queues k + w)
said_long k w false old new said = ap length said.queues

-- ---- after some time

pub passed_kept : (ns : ℕ) (old new : State) → IsKept old → Passed ns old new → IsKept new
passed_kept ns old new kept passed =
    let time = old.left + ns in
    let fits = served_beyond time old.queues new.queues new.left old.setting.own passed.served in
    let tight = served_beyond time old.queues new.queues new.left old.setting.one passed.served in
    kept_from new old.setting new.left new.queues passed.setting refl refl (
    record {
      own_is_more = kept.own_is_more;
      few_left = served_few_left time old.queues new.queues new.left passed.served;
      fits = omega (arith, kept.fits, fits);
      tight = omega (arith, kept.tight, tight);
    }
    )

pub passed_long : (ns : ℕ) (old new : State) → Passed ns old new → length new.queues ≡ length old.queues
passed_long ns old new passed = served_long (old.left + ns) old.queues new.queues new.left passed.served

-- ---- at first, and how much there can be

pub kept_empty : (setting : Setting) (speakers : ℕ) → setting.one ≤ setting.own → IsKept (empty setting speakers)
kept_empty setting speakers more =
    let none : (part : ℕ) → beyond part (replicate speakers 0) ≡ 0 = λ (part : ℕ). rw lowered-replicate (total-replicate speakers) in
    record { own_is_more = more; few_left = inl refl; fits = omega (arith, none setting.own); tight = omega (arith, none setting.one) }

pub total_most : (s : State) → IsKept s → total s.queues ≤ s.setting.room + s.setting.reserve + s.setting.one * waiting s.queues
total_most s kept = omega (arith, served_most s.setting.one s.queues, kept.tight)

pub total_small : (s : State) → IsKept s → s.setting.own ≤ most_time → s.setting.reserve ≤ most_time → s.setting.room ≤ most_time
    → length s.queues ≤ most_speakers → total s.queues ≤ 2 ^ 57
total_small s kept own reserve room few =
    let one : s.setting.one ≤ most_time = omega (arith, kept.own_is_more, own) in
    let speakers : waiting s.queues ≤ most_speakers = omega (arith, waiting_most s.queues, few) in
    omega (arith, total_most s kept, mul-le-mul one speakers)
