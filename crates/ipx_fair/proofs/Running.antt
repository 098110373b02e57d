-- Runs of events, from one state to another.
use Rattle.std.proofs.Common.{◌≡◌, ◌∙◌, sym, ap, subst, arith, ℕ, ◌+◌, ◌*◌, ◌<◌, ◌≤◌, ◌⊎◌, inl, inr, Bool, true, false, if◌then◌else◌, List, [], ◌∷◌, length}
use Rattle.std.proofs.Math.Nat.{mul-le-mul_left}
use Rattle.ipx_fair.specs.declared.setting.Setting.{Setting}
use Rattle.ipx_fair.specs.Queues.{total, waiting}
use Rattle.ipx_fair.specs.States.{State}
use Rattle.ipx_fair.specs.Hearing.{queue_of, Said}
use Rattle.ipx_fair.specs.Events.{Event, Time, Says, Step, Runs}
use Rattle.ipx_fair.specs.Keeping.{IsKept}
use Rattle.ipx_fair.specs.Laws.{Anything, AtMost, SomeWait, elapsed, given}
use Rattle.ipx_fair.proofs.Queues.{waiting_most, waiting_least, total-set}
use Rattle.ipx_fair.proofs.Served.{served_within, served_exactly, served_less}
use Rattle.ipx_fair.proofs.Kept.{said_kept, said_long, passed_kept, passed_long, total_most}

pub step_kept : (event : Event) (old new : State) → IsKept old → Step event old new → IsKept new
step_kept (Time ns) old new kept step = passed_kept ns old new kept step
step_kept (Says k w heard) old new kept step = said_kept k w heard old new kept step

pub step_long : (event : Event) (old new : State) → Step event old new → length new.queues ≡ length old.queues
step_long (Time ns) old new step = passed_long ns old new step
step_long (Says k w heard) old new step = said_long k w heard old new step

pub step_setting : (event : Event) (old new : State) → Step event old new → new.setting ≡ old.setting
step_setting (Time ns) old new step = step.setting
step_setting (Says k w heard) old new step = step.setting

module _ (Holds : State → Type 0) where
  pub runs_kept : (old new : State) (events : List Event) → IsKept old → Runs Holds old events new → IsKept new
  runs_kept old new [] kept run = subst IsKept (sym run.1) kept
  runs_kept old new (event ∷ events) kept run =
      runs_kept run.1.0 new events (step_kept event old run.1.0 kept run.1.1) run.1.2

  pub runs_setting : (old new : State) (events : List Event) → Runs Holds old events new → new.setting ≡ old.setting
  runs_setting old new [] run = ap (λ (s : State). s.setting) run.1
  runs_setting old new (event ∷ events) run = runs_setting run.1.0 new events run.1.2 ∙ step_setting event old run.1.0 run.1.1

  pub runs_long : (old new : State) (events : List Event) → Runs Holds old events new → length new.queues ≡ length old.queues
  runs_long old new [] run = ap (λ (s : State). length s.queues) run.1
  runs_long old new (event ∷ events) run = runs_long run.1.0 new events run.1.2 ∙ step_long event old run.1.0 run.1.1

-- ---- what is given

-- what a packet adds
pub said_total : (k w : ℕ) (heard : Bool) (old new : State) → Said k w heard old new → total new.queues ≡ total old.queues + (if heard then w else 0)
said_total k w true old new said =
    ap total said.queues ∙ omega (arith, total-set old.queues k (queue_of old.queues k + w) said.there)
said_total k w false old new said = ap total said.queues ∙ omega arith

pub holds_first : (Holds : State → Type 0) (old new : State) (events : List Event) → Runs Holds old events new → Holds old
holds_first Holds old new [] run = run.0
holds_first Holds old new (event ∷ events) run = run.0

pub holds_last : (Holds : State → Type 0) (old new : State) (events : List Event) → Runs Holds old events new → Holds new
holds_last Holds old new [] run = subst Holds (sym run.1) run.0
holds_last Holds old new (event ∷ events) run = holds_last Holds run.1.0 new events run.1.2

-- at most as many wait as there are
pub runs_few : (n : ℕ) (old new : State) (events : List Event) → length old.queues ≤ n → Runs Anything old events new → Runs (AtMost n) old events new
runs_few n old new [] few run = (omega (arith, few, waiting_most old.queues), run.1)
runs_few n old new (event ∷ events) few run = (
  omega (arith, few, waiting_most old.queues),
  (run.1.0, run.1.1, runs_few n run.1.0 new events (omega (arith, few, step_long event old run.1.0 run.1.1)) run.1.2),
)

-- what was given and lies in queues came with time
pub given_within : (old new : State) (events : List Event) → Runs Anything old events new
    → given events + total old.queues + new.left ≤ elapsed events + old.left + total new.queues
given_within old new [] run =
    let all : total new.queues ≡ total old.queues = ap (λ (s : State). total s.queues) run.1 in
    let left : new.left ≡ old.left = ap (λ (s : State). s.left) run.1 in
    omega (arith, all, left)
given_within old new (Time ns ∷ events) run =
    let next = run.1.0 in
    omega (arith, served_within (old.left + ns) old.queues next.queues next.left run.1.1.served, given_within next new events run.1.2)
given_within old new (Says k w heard ∷ events) run =
    let next = run.1.0 in
    omega (arith, said_total k w heard old next run.1.1, run.1.1.left, given_within next new events run.1.2)

pub given_exactly : (old new : State) (events : List Event) → Runs SomeWait old events new
    → given events + total old.queues + new.left ≡ elapsed events + old.left + total new.queues
given_exactly old new [] run =
    let all : total new.queues ≡ total old.queues = ap (λ (s : State). total s.queues) run.1 in
    let left : new.left ≡ old.left = ap (λ (s : State). s.left) run.1 in
    omega (arith, all, left)
given_exactly old new (Time ns ∷ events) run =
    let next = run.1.0 in
    let waits : 0 < waiting next.queues = holds_first SomeWait next new events run.1.2 in
    let some : 0 < total next.queues = omega (arith, waits, waiting_least next.queues) in
    omega (arith, served_exactly (old.left + ns) old.queues next.queues next.left run.1.1.served some, given_exactly next new events run.1.2)
given_exactly old new (Says k w heard ∷ events) run =
    let next = run.1.0 in
    omega (arith, said_total k w heard old next run.1.1, run.1.1.left, given_exactly next new events run.1.2)

-- ---- where nothing is given

none_more : (old new : State) (events : List Event) → Runs Anything old events new → given events ≡ 0 → total new.queues ≤ total old.queues
none_more old new [] run none = omega (arith, ap (λ (s : State). total s.queues) run.1)
none_more old new (Time ns ∷ events) run none =
    let next = run.1.0 in
    omega (arith, served_less (old.left + ns) old.queues next.queues next.left run.1.1.served, none_more next new events run.1.2 none)
none_more old new (Says k w heard ∷ events) run none =
    let next = run.1.0 in
    let later : given events ≡ 0 = omega arith in
    omega (arith, said_total k w heard old next run.1.1, none_more next new events run.1.2 later)

none_lost : (old new : State) (events : List Event) → Runs Anything old events new → given events ≡ 0
    → (total new.queues ≡ 0) ⊎ (elapsed events + old.left + total new.queues ≤ total old.queues + new.left)
none_lost old new [] run none =
    let all : total new.queues ≡ total old.queues = ap (λ (s : State). total s.queues) run.1 in
    let left : new.left ≡ old.left = ap (λ (s : State). s.left) run.1 in
    inr (omega (arith, all, left))
none_lost old new (Time ns ∷ events) run none =
    let next = run.1.0 in
    elim run.1.1.served.time_used [
      | inl all ↦ inl (omega (arith, all.0, none_more next new events run.1.2 none))
      | inr some ↦ elim (none_lost next new events run.1.2 none) [ inl empty ↦ inl empty | inr later ↦ inr (omega (arith, some.1, later)) ]
    ]
none_lost old new (Says k w heard ∷ events) run none =
    let next = run.1.0 in
    let later : given events ≡ 0 = omega arith in
    elim (none_lost next new events run.1.2 later) [
      | inl empty ↦ inl empty
      | inr rest ↦ inr (omega (arith, rest, said_total k w heard old next run.1.1, run.1.1.left))
    ]

-- what a state can have, by its speakers
pub state_most : (s : State) → IsKept s → total s.queues ≤ s.setting.room + s.setting.reserve + s.setting.one * length s.queues
state_most s kept = omega (arith, total_most s kept, mul-le-mul_left s.setting.one (waiting_most s.queues))

drained : (s : State) (time limit before : ℕ) → IsKept s → (total s.queues ≡ 0) ⊎ (time + total s.queues ≤ before + s.left) → before ≤ limit → limit ≤ time
    → waiting s.queues ≡ 0
drained s time limit before kept how fits long = elim how [
  | inl empty ↦ omega (arith, empty, waiting_least s.queues)
  | inr lost ↦ elim kept.few_left [
    | inl none ↦ omega (arith, lost, none, fits, long, waiting_least s.queues)
    | inr few ↦ absurd (omega (arith, lost, few, fits, long, waiting_least s.queues))
  ]
]

pub drains : (old new : State) (events : List Event) → IsKept old → Runs Anything old events new → given events ≡ 0
    → old.setting.room + old.setting.reserve + old.setting.one * length old.queues ≤ elapsed events → waiting new.queues ≡ 0
drains old new events kept run none long =
    let how : (total new.queues ≡ 0) ⊎ (elapsed events + total new.queues ≤ total old.queues + new.left) =
    elim (none_lost old new events run none) [ inl empty ↦ inl empty | inr lost ↦ inr (omega (arith, lost)) ] in
    drained new (elapsed events) (old.setting.room + old.setting.reserve + old.setting.one * length old.queues) (total old.queues)
    (runs_kept Anything old new events kept run) how (state_most old kept) long

pub bound : (old new : State) (events : List Event) → IsKept old → Runs Anything old events new
    → given events ≤ elapsed events + old.setting.room + old.setting.reserve + old.setting.one * length old.queues + length old.queues
bound old new events kept run =
    let setting = runs_setting Anything old new events run in
    let most : total new.queues ≤ old.setting.room + old.setting.reserve + old.setting.one * length old.queues =
    subst (λ (x : Setting). total new.queues ≤ x.room + x.reserve + x.one * length old.queues) setting
    (subst (λ (x : ℕ). total new.queues ≤ new.setting.room + new.setting.reserve + new.setting.one * x) (runs_long Anything old new events run)
    (state_most new (runs_kept Anything old new events kept run))) in
    let left : old.left ≤ length old.queues =
    elim kept.few_left [ inl none ↦ omega (arith, none) | inr few ↦ omega (arith, few, waiting_most old.queues) ] in
    omega (arith, given_within old new events run, most, left)
