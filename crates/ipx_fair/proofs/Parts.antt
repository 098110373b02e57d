-- A speaker and his part of the time.
use Rattle.std.proofs.Common.{◌≡◌, ◌≢◌, ◌∙◌, refl, sym, ap, subst, arith, ℕ, ◌+◌, ◌-◌, ◌*◌, ◌<◌, ◌≤◌, ◌⊎◌, inl, inr, Bool, true, false, ◌&&◌, ◌==◌, if◌then◌else◌, List, [], ◌∷◌, get_or-set_same, get_or-set_other}
use Rattle.std.proofs.Math.Nat.{mul-le-mul_left}
use Rattle.std.proofs.lemmas.Bool.{cases_Bool, cases_lt, or_left, or_right, and_from, le-leb, eqb-true, eqb-false}
use Rattle.ipx_fair.specs.declared.setting.Setting.{Setting}
use Rattle.ipx_fair.specs.Queues.{total, waiting}
use Rattle.ipx_fair.specs.States.{State}
use Rattle.ipx_fair.specs.Serving.{Passed}
use Rattle.ipx_fair.specs.Hearing.{hears, queue_of, Said}
use Rattle.ipx_fair.specs.Events.{Event, Time, Says, Runs}
use Rattle.ipx_fair.specs.Keeping.{IsKept}
use Rattle.ipx_fair.specs.Laws.{AtMost, HasMore, elapsed, given_to, KeepsTo, LosesNothing}
use Rattle.ipx_fair.proofs.Queues.{served_most}
use Rattle.ipx_fair.proofs.Served.{served_part}
use Rattle.ipx_fair.proofs.Running.{step_kept, holds_first, holds_last, runs_kept}

-- ---- the queue of one speaker after a packet

-- his own
queue_own : (k w : ℕ) (heard : Bool) (old new : State) → Said k w heard old new → queue_of new.queues k ≡ queue_of old.queues k + (if heard then w else 0)
queue_own k w true old new said =
    ap (λ (qs : List ℕ). queue_of qs k) said.queues ∙ get_or-set_same old.queues k (queue_of old.queues k + w) 0 said.there
queue_own k w false old new said = ap (λ (qs : List ℕ). queue_of qs k) said.queues ∙ omega arith

-- somebody else's
queue_other : (j k w : ℕ) (heard : Bool) (old new : State) → Said j w heard old new → k ≢ j → queue_of new.queues k ≡ queue_of old.queues k
queue_other j k w true old new said apart =
    ap (λ (qs : List ℕ). queue_of qs k) said.queues ∙ get_or-set_other old.queues j k (queue_of old.queues j + w) 0 apart
queue_other j k w false old new said apart = ap (λ (qs : List ℕ). queue_of qs k) said.queues

queue_after : (j k w : ℕ) (heard : Bool) (old new : State) → Said j w heard old new
    → queue_of new.queues k ≡ queue_of old.queues k + (if (j == k) && heard then w else 0)
queue_after j k w heard old new said = elim (cases_Bool (j == k)) [
  | inl same ↦
      let is : j ≡ k = eqb-true j k same in
      rw same (subst (λ (x : ℕ). queue_of new.queues x ≡ queue_of old.queues x + (if heard then w else 0)) is (queue_own j w heard old new said))
  | inr apart ↦
      let other : k ≢ j = λ e. eqb-false j k apart (sym e) in
      rw apart (omega (arith, queue_other j k w heard old new said other))
]

-- ---- who has more to say

pub part_used : (n k : ℕ) (old new : State) (events : List Event) → Runs (HasMore n k) old events new
    → elapsed events + old.left + n * queue_of new.queues k ≤ n * (given_to k events + queue_of old.queues k) + new.left
part_used n k old new [] run =
    let queue : n * queue_of new.queues k ≡ n * queue_of old.queues k = ap (λ (s : State). n * queue_of s.queues k) run.1 in
    let left : new.left ≡ old.left = ap (λ (s : State). s.left) run.1 in
    omega (arith, queue, left)
part_used n k old new (Time ns ∷ events) run =
    let next = run.1.0 in
    let more = holds_first (HasMore n k) next new events run.1.2 in
    omega (arith, served_part (old.left + ns) old.queues next.queues next.left n k run.0.0 run.1.1.served more.1, part_used n k next new events run.1.2)
part_used n k old new (Says j w heard ∷ events) run =
    let next = run.1.0 in
    let after : n * queue_of next.queues k ≡ n * (queue_of old.queues k + (if (j == k) && heard then w else 0)) =
    ap (λ (x : ℕ). n * x) (queue_after j k w heard old next run.1.1) in
    omega (arith, after, run.1.1.left, part_used n k next new events run.1.2)

pub fair_part : (n k : ℕ) (old new : State) (events : List Event) → IsKept old → Runs (HasMore n k) old events new
    → elapsed events + n * queue_of new.queues k ≤ n * (given_to k events + queue_of old.queues k) + n
fair_part n k old new events kept run =
    let after = runs_kept (HasMore n k) old new events kept run in
    let few : waiting new.queues ≤ n = (holds_last (HasMore n k) old new events run).0 in
    let left : new.left ≤ n = elim after.few_left [ inl none ↦ omega (arith, none) | inr less ↦ omega (arith, less, few) ] in
    omega (arith, part_used n k old new events run, left)

-- ---- who keeps to his part

-- what his bucket says, after some time
later_fits : (n k ns bucket : ℕ) (old next : State) → waiting old.queues ≤ n → Passed ns old next → n * queue_of old.queues k ≤ bucket + old.left
    → n * queue_of next.queues k ≤ bucket - ns + next.left
later_fits n k ns bucket old next few passed fits = elim (cases_lt 0 (queue_of next.queues k)) [
  | inl some ↦ omega (arith, served_part (old.left + ns) old.queues next.queues next.left n k few passed.served some, fits)
  | inr none ↦
      let empty : queue_of next.queues k ≡ 0 = omega arith in
      rw empty (omega arith)
]

-- his queue never has more than his bucket says
fits_part : (n q w most bucket left : ℕ) → 0 < n → n * q ≤ bucket + left → bucket + n * w ≤ n * most → (left ≡ 0) ⊎ (left < n) → q + w ≤ most
fits_part n q w most bucket left some fits keeps few = elim (cases_lt most (q + w)) [
  | inl over ↦
      let up : most + 1 ≤ q + w = omega arith in
      let more = mul-le-mul_left n up in
      elim few [ inl none ↦ absurd (omega (arith, more, fits, keeps, none, some)) | inr less ↦ absurd (omega (arith, more, fits, keeps, less)) ]
  | inr within ↦ within
]

module _ (n k most : ℕ) (setting : Setting) (some : 0 < n)
    (heard_within : (s : State) (w : ℕ) → IsKept s → waiting s.queues ≤ n → s.setting ≡ setting → queue_of s.queues k + w ≤ most
    → hears s.setting (queue_of s.queues k) (total s.queues) w ≡ true) where
  few_left : (s : State) → IsKept s → waiting s.queues ≤ n → (s.left ≡ 0) ⊎ (s.left < n)
  few_left s kept few = elim kept.few_left [ inl none ↦ inl none | inr less ↦ inr (omega (arith, less, few)) ]

  is_heard : (w bucket : ℕ) (heard : Bool) (old next : State) → IsKept old → waiting old.queues ≤ n → old.setting ≡ setting → n * queue_of old.queues k ≤ bucket + old.left
      → bucket + n * w ≤ n * most → Said k w heard old next → heard ≡ true
  is_heard w bucket heard old next kept few same fits keeps said =
      said.decided ∙ heard_within old w kept few same (fits_part n (queue_of old.queues k) w most bucket old.left some fits keeps (few_left old kept few))

  pub loses_nothing : (old new : State) (events : List Event) (bucket : ℕ) → IsKept old → Runs (AtMost n) old events new → old.setting ≡ setting
      → n * queue_of old.queues k ≤ bucket + old.left → KeepsTo n most k bucket events → LosesNothing k events
  loses_nothing old new [] bucket kept run same fits keeps = tt
  loses_nothing old new (Time ns ∷ events) bucket kept run same fits keeps =
      let next = run.1.0 in
      loses_nothing next new events (bucket - ns) (step_kept (Time ns) old next kept run.1.1) run.1.2 (run.1.1.setting ∙ same)
      (later_fits n k ns bucket old next run.0 run.1.1 fits) keeps
  loses_nothing old new (Says j w heard ∷ events) bucket kept run same fits keeps =
      let next = run.1.0 in
      let after = step_kept (Says j w heard) old next kept run.1.1 in
      elim (cases_Bool (j == k)) [
        | inl is ↦
            let self : j ≡ k = eqb-true j k is in
            let said : Said k w heard old next = subst (λ (x : ℕ). Said x w heard old next) self run.1.1 in
            let heard_now = is_heard w bucket heard old next kept run.0 same fits (keeps.0 self) said in
            let queue : queue_of next.queues k ≡ queue_of old.queues k + w =
            queue_own k w heard old next said ∙ ap (λ (b : Bool). queue_of old.queues k + (if b then w else 0)) heard_now in
            let more : n * queue_of next.queues k ≡ n * (queue_of old.queues k + w) = ap (λ (x : ℕ). n * x) queue in
            let rest : KeepsTo n most k (bucket + n * w) events = rw is at keeps.1 in (
              λ e. heard_now,
              loses_nothing next new events (bucket + n * w) after run.1.2 (run.1.1.setting ∙ same) (omega (arith, more, fits, run.1.1.left)) rest,
            )
        | inr apart ↦
            let other : k ≢ j = λ e. eqb-false j k apart (sym e) in
            let queue : n * queue_of next.queues k ≡ n * queue_of old.queues k = ap (λ (x : ℕ). n * x) (queue_other j k w heard old next run.1.1 other) in
            let rest : KeepsTo n most k bucket events = rw apart at keeps.1 in (
              λ e. absurd (other (sym e)),
              loses_nothing next new events bucket after run.1.2 (run.1.1.setting ∙ same) (omega (arith, queue, fits, run.1.1.left)) rest,
            )
      ]

-- ---- the two parts that a speaker may have at once

by_one_part : (s : State) (k w : ℕ) → queue_of s.queues k + w ≤ s.setting.one → hears s.setting (queue_of s.queues k) (total s.queues) w ≡ true
by_one_part s k w within = or_left _ _ (or_left _ _ (le-leb (queue_of s.queues k + w) s.setting.one within))

by_own_part : (s : State) (n k w : ℕ) → IsKept s → waiting s.queues ≤ n → (n + 1) * s.setting.own ≤ s.setting.reserve → queue_of s.queues k + w ≤ s.setting.own
    → hears s.setting (queue_of s.queues k) (total s.queues) w ≡ true
by_own_part s n k w kept few enough within =
    let shares = mul-le-mul_left s.setting.own few in
    let all : total s.queues + w ≤ s.setting.room + s.setting.reserve = omega (arith, served_most s.setting.own s.queues, kept.fits, shares, enough, within) in
    or_left _ _ (
    or_right _ _ (
    and_from _ _ (le-leb (queue_of s.queues k + w) s.setting.own within) (le-leb (total s.queues + w) (s.setting.room + s.setting.reserve) all)
    )
    )

pub one_heard : (n k : ℕ) (old new : State) (events : List Event) → 0 < n → IsKept old → Runs (AtMost n) old events new
    → KeepsTo n old.setting.one k (n * queue_of old.queues k) events → LosesNothing k events
one_heard n k old new events some kept run keeps =
    loses_nothing n k old.setting.one old.setting some
    (λ s w kept_then few same within. by_one_part s k w (subst (λ (x : Setting). queue_of s.queues k + w ≤ x.one) (sym same) within))
    old new events (n * queue_of old.queues k) kept run refl (omega arith) keeps

pub own_heard : (n k : ℕ) (old new : State) (events : List Event) → 0 < n → IsKept old → Runs (AtMost n) old events new
    → (n + 1) * old.setting.own ≤ old.setting.reserve → KeepsTo n old.setting.own k (n * queue_of old.queues k) events → LosesNothing k events
own_heard n k old new events some kept run enough keeps =
    loses_nothing n k old.setting.own old.setting some
    (
    λ s w kept_then few same within.
    by_own_part s n k w kept_then few (subst (λ (x : Setting). (n + 1) * x.own ≤ x.reserve) (sym same) enough)
    (subst (λ (x : Setting). queue_of s.queues k + w ≤ x.own) (sym same) within)
    )
    old new events (n * queue_of old.queues k) kept run refl (omega arith) keeps
