-- One of several receivers is a receiver, and who keeps to his part of it always finds room there.
use Rattle.std.proofs.Common.{◌≡◌, ◌∙◌, refl, sym, ap, subst, arith, ℕ, ◌+◌, ◌-◌, ◌*◌, ◌<◌, ◌≤◌, Bool, true, false, ◌==◌, if◌then◌else◌, List, [], ◌∷◌, length}
use Rattle.ipx_fair.specs.States.{State}
use Rattle.ipx_fair.specs.Hearing.{hears_from, queue_of, Said}
use Rattle.ipx_fair.specs.Events.{Event as One, Time, Says, Runs as RunsOfOne}
use Rattle.ipx_fair.specs.Keeping.{IsKept}
use Rattle.ipx_fair.specs.Laws.{AtMost, KeepsTo, LosesNothing}
use Rattle.ipx_fair.proofs.Parts.{one_heard, own_heard}
use Rattle.ipx_limits.specs.Several.{Event, Passing, Asks, Runs, of_it, said}

-- a packet that isn't heard and doesn't go on
not_said : (k w : ℕ) (old new : State) → k < length old.queues → false ≡ hears_from old k w → new ≡ old → Said k w false old new
not_said k w old new there decided same = record {
  there = there;
  setting = ap (λ (s : State). s.setting) same;
  left = ap (λ (s : State). s.left) same;
  decided = decided;
  queues = ap (λ (s : State). s.queues) same;
}

pub runs_one : (H : State → Type 0) (old new : State) (events : List Event) → Runs H old events new → RunsOfOne H old (of_it events) new
runs_one H old new [] run = run
runs_one H old new (Passing ns ∷ events) run = (run.0, (run.1.0, run.1.1, runs_one H run.1.0 new events run.1.2))
runs_one H old new (Asks k w true true ∷ events) run = (run.0, (run.1.0, run.1.1.counted, runs_one H run.1.0 new events run.1.2))
runs_one H old new (Asks k w true false ∷ events) run =
    subst (λ (s : State). RunsOfOne H s (of_it events) new) run.1.1.counted (runs_one H run.1.0 new events run.1.2)
runs_one H old new (Asks k w false false ∷ events) run =
    let asked = run.1.1 in
    (run.0, (run.1.0, not_said k w old run.1.0 asked.there asked.decided asked.counted, runs_one H run.1.0 new events run.1.2))
runs_one H old new (Asks k w false true ∷ events) run =
    let asked = run.1.1 in
    let never : true ≡ false = asked.counted.decided ∙ sym asked.decided in
    (run.0, (run.1.0, subst (λ (heard : Bool). Said k w heard old run.1.0) never asked.counted, runs_one H run.1.0 new events run.1.2))

-- ---- who keeps to his part with all that he says keeps to it with what is counted

fuller : (same : Bool) (less bucket more : ℕ) → less ≤ bucket → (if same then less + more else less) ≤ (if same then bucket + more else bucket)
fuller true less bucket more few = omega (arith, few)
fuller false less bucket more few = few

not_less : (same : Bool) (bucket more : ℕ) → bucket ≤ (if same then bucket + more else bucket)
not_less true bucket more = omega arith
not_less false bucket more = omega arith

module _ (n most k : ℕ) where
  keeps_less : (less bucket : ℕ) (events : List One) → less ≤ bucket → KeepsTo n most k bucket events → KeepsTo n most k less events
  keeps_less less bucket [] few keeps = tt
  keeps_less less bucket (Time ns ∷ events) few keeps = keeps_less (less - ns) (bucket - ns) events (omega (arith, few)) keeps
  keeps_less less bucket (Says j w heard ∷ events) few keeps = (
    λ same. omega (arith, few, keeps.0 same),
    keeps_less (if j == k then less + n * w else less) (if j == k then bucket + n * w else bucket) events (fuller (j == k) less bucket (n * w) few) keeps.1,
  )

  pub keeps_of_it : (bucket : ℕ) (events : List Event) → KeepsTo n most k bucket (said events) → KeepsTo n most k bucket (of_it events)
  keeps_of_it bucket [] keeps = tt
  keeps_of_it bucket (Passing ns ∷ events) keeps = keeps_of_it (bucket - ns) events keeps
  keeps_of_it bucket (Asks j w false goes ∷ events) keeps = (keeps.0, keeps_of_it (if j == k then bucket + n * w else bucket) events keeps.1)
  keeps_of_it bucket (Asks j w true true ∷ events) keeps = (keeps.0, keeps_of_it (if j == k then bucket + n * w else bucket) events keeps.1)
  keeps_of_it bucket (Asks j w true false ∷ events) keeps =
      keeps_less bucket (if j == k then bucket + n * w else bucket) (of_it events) (not_less (j == k) bucket (n * w))
      (keeps_of_it (if j == k then bucket + n * w else bucket) events keeps.1)

-- ---- whose packets are heard as far as they count, all his packets are heard

pub all_heard : (k : ℕ) (events : List Event) → LosesNothing k (of_it events) → LosesNothing k (said events)
all_heard k [] none = tt
all_heard k (Passing ns ∷ events) none = all_heard k events none
all_heard k (Asks j w false goes ∷ events) none = (none.0, all_heard k events none.1)
all_heard k (Asks j w true true ∷ events) none = (λ same. refl, all_heard k events none.1)
all_heard k (Asks j w true false ∷ events) none = (λ same. refl, all_heard k events none)

-- ---- so who keeps to his part is always heard

pub own_part_heard : (n k : ℕ) (old new : State) (events : List Event) → 0 < n → IsKept old → RunsOfOne (AtMost n) old (of_it events) new
    → (n + 1) * old.setting.own ≤ old.setting.reserve
    → KeepsTo n old.setting.own k (n * queue_of old.queues k) (said events) → LosesNothing k (said events)
own_part_heard n k old new events some kept run enough keeps =
    all_heard k events (own_heard n k old new (of_it events) some kept run enough (keeps_of_it n old.setting.own k (n * queue_of old.queues k) events keeps))

pub part_heard : (n k : ℕ) (old new : State) (events : List Event) → 0 < n → IsKept old → RunsOfOne (AtMost n) old (of_it events) new
    → KeepsTo n old.setting.one k (n * queue_of old.queues k) (said events) → LosesNothing k (said events)
part_heard n k old new events some kept run keeps =
    all_heard k events (one_heard n k old new (of_it events) some kept run (keeps_of_it n old.setting.one k (n * queue_of old.queues k) events keeps))
