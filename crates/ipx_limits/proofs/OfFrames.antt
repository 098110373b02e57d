-- What networks of frames ask and tell the router.
use Rattle.std.proofs.Common.{◌≡◌, ◌∙◌, refl, sym, ap, subst, arith, ℕ, ◌+◌, ◌*◌, Bool, true, false, ◌&&◌, if◌then◌else◌, List, [], ◌∷◌}
use Rattle.std.proofs.lemmas.Bool.{and_parts}
use Rattle.ipx_fair.specs.declared.meter.Meter.{Meter}
use Rattle.ipx_fair.specs.States.{State}
use Rattle.ipx_fair.specs.Hearing.{hears_from}
use Rattle.ipx_fair.specs.Events.{Event as One, Time, Says, Runs as RunsOfOne}
use Rattle.ipx_fair.specs.Laws.{Anything, elapsed, given}
use Rattle.ipx_limits.specs.declared.decision.Decision.{Decision}
use Rattle.ipx_limits.specs.declared.decision.Decision.TheVariants.{Passes, TooManyQuestions, TooManyAdvertisements}
use Rattle.ipx_limits.specs.declared.kind.Kind.{Kind}
use Rattle.ipx_limits.specs.declared.kind.Kind.TheVariants.{Ping, Answer, Question, Told, Other}
use Rattle.ipx_limits.specs.declared.limits.Limits.{Limits}
use Rattle.ipx_limits.specs.Limits.{told_each}
use Rattle.ipx_limits.specs.Several.{Counted}
use Rattle.ipx_limits.specs.Deciding.{has_room, passes, is_question, is_told, frames_hand}
use Rattle.ipx_limits.specs.Metered.{Runs, Event, Passing, Decided, uses_by, time_of, passed, FramesHanding, FramesRuns, LinksRun}
use Rattle.ipx_limits.proofs.Limited.{so, came}

-- ---- a network of frames

let_one : (a : Bool) (refused : Decision) → passes refused ≡ false → passes (if a then Passes else refused) ≡ true → a ≡ true
let_one true refused never e = refl
let_one false refused never e = sym never ∙ e

frames_asked : (limits : Limits) (link : ℕ) (kind : Kind) (asked told : Meter) (links : State) (decision : Decision)
    → decision ≡ frames_hand limits link kind asked told links → is_question kind && passes decision ≡ true → has_room limits.questions asked ≡ true
frames_asked limits link Question asked told links decision is counts = let_one (has_room limits.questions asked) TooManyQuestions refl (sym (ap passes is) ∙ counts)
frames_asked limits link Ping asked told links decision is counts = so _ counts
frames_asked limits link Answer asked told links decision is counts = so _ counts
frames_asked limits link Told asked told links decision is counts = so _ counts
frames_asked limits link Other asked told links decision is counts = so _ counts

frames_told : (limits : Limits) (link : ℕ) (kind : Kind) (asked told : Meter) (links : State) (decision : Decision)
    → decision ≡ frames_hand limits link kind asked told links → is_told kind && passes decision ≡ true → has_room limits.advertisements told ≡ true
frames_told limits link Told asked told links decision is counts =
    let both : has_room limits.advertisements told && hears_from links link told_each ≡ true =
    let_one (has_room limits.advertisements told && hears_from links link told_each) TooManyAdvertisements refl (sym (ap passes is) ∙ counts) in
    (and_parts (has_room limits.advertisements told) (hears_from links link told_each) both).0
frames_told limits link Ping asked told links decision is counts = so _ counts
frames_told limits link Answer asked told links decision is counts = so _ counts
frames_told limits link Question asked told links decision is counts = so _ counts
frames_told limits link Other asked told links decision is counts = so _ counts

pub frames_asked_runs : (limits : Limits) (old new : FramesHanding) (events : List Event) → FramesRuns limits old events new
    → Runs limits.questions old.asked (uses_by is_question events) new.asked
frames_asked_runs limits old new [] run = ap (λ (h : FramesHanding). h.asked) run
frames_asked_runs limits old new (Passing ns ∷ events) run = (run.0.asked, run.1.0, frames_asked_runs limits run.0 new events run.2)
frames_asked_runs limits old new (Decided kind decision ∷ events) run =
    let link = run.1.0 in
    let links = run.1.1.0 in
    let handed = run.1.1.1.1 in (
      run.0.asked,
      came limits.questions (is_question kind && passes decision) old.asked run.0.asked
          (λ counts. frames_asked limits link kind old.asked old.advertised links decision handed.decided counts) handed.questions,
      frames_asked_runs limits run.0 new events run.2,
    )

pub frames_told_runs : (limits : Limits) (old new : FramesHanding) (events : List Event) → FramesRuns limits old events new
    → Runs limits.advertisements old.advertised (uses_by is_told events) new.advertised
frames_told_runs limits old new [] run = ap (λ (h : FramesHanding). h.advertised) run
frames_told_runs limits old new (Passing ns ∷ events) run = (run.0.advertised, run.1.1, frames_told_runs limits run.0 new events run.2)
frames_told_runs limits old new (Decided kind decision ∷ events) run =
    let link = run.1.0 in
    let links = run.1.1.0 in
    let handed = run.1.1.1.1 in (
      run.0.advertised,
      came limits.advertisements (is_told kind && passes decision) old.advertised run.0.advertised
          (λ counts. frames_told limits link kind old.asked old.advertised links decision handed.decided counts) handed.advertisements,
      frames_told_runs limits run.0 new events run.2,
    )

-- ---- all of them: what is told is said to a receiver

-- what is said to it in so much time, so many packets
pub record Tells (old new : State) (passing count : ℕ) : Type 0 where
  pub ones : List One
  pub runs : RunsOfOne Anything old ones new
  pub time : elapsed ones ≡ passing
  pub all : given ones ≡ count * told_each

one_more : (old next new : State) (time count link : ℕ) (counts : Bool) → Counted counts link told_each old next → Tells next new time count
    → Tells old new time ((if counts then 1 else 0) + count)
one_more old next new time count link true counted behind = record {
  ones = Says link told_each true ∷ behind.ones;
  runs = (tt, (next, counted, behind.runs));
  time = behind.time;
  all = omega (arith, behind.all);
}
one_more old next new time count link false counted behind =
    let same : count ≡ 0 + count = omega arith in
    subst (λ (n : ℕ). Tells old new time n) same (subst (λ (s : State). Tells s new time count) counted behind)

pub links_run : (old new : State) (events : List Event) → LinksRun old events new → Tells old new (time_of events) (passed is_told events)
links_run old new [] run = record { ones = []; runs = (tt, run); time = refl; all = refl }
links_run old new (Passing ns ∷ events) run =
    let behind = links_run run.0 new events run.2 in
    record { ones = Time ns ∷ behind.ones; runs = (tt, (run.0, run.1, behind.runs)); time = ap (λ (t : ℕ). ns + t) behind.time; all = behind.all }
links_run old new (Decided kind decision ∷ events) run =
    one_more old run.0 new (time_of events) (passed is_told events) run.1.link (is_told kind && passes decision) run.1.handed.of_all
    (links_run run.0 new events run.2)
