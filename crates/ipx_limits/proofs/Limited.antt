-- What a limit lets pass in some time.
use Rattle.std.proofs.Common.{◌≡◌, ◌∙◌, refl, sym, ap, inl, inr, arith, ℕ, ◌+◌, ◌*◌, ◌/◌, ◌≤◌, min, max, Bool, true, false, ◌&&◌, not, if◌then◌else◌, List, [], ◌∷◌}
use Rattle.std.proofs.Math.Nat.{mul-le-mul_left, div-mul-le_self}
use Rattle.std.proofs.lemmas.Bool.{and_parts, leb-true}
use Rattle.std.proofs.lemmas.Nat.{le-div}
use Rattle.ipx_fair.specs.declared.meter.Meter.{Meter}
use Rattle.ipx_limits.specs.declared.decision.Decision.{Decision}
use Rattle.ipx_limits.specs.declared.decision.Decision.TheVariants.{Passes, TooManyPings, TooManyQuestions, TooManyAdvertisements, TooMuchForRouter, TooManyAnswers}
use Rattle.ipx_limits.specs.declared.kind.Kind.{Kind}
use Rattle.ipx_limits.specs.declared.kind.Kind.TheVariants.{Ping, Answer, Question, Told, Other}
use Rattle.ipx_limits.specs.declared.limits.Limit.{Limit}
use Rattle.ipx_limits.specs.declared.limits.Limits.{Limits}
use Rattle.ipx_limits.specs.declared.uses.Address.{Address}
use Rattle.ipx_limits.specs.declared.uses.Client.{Client}
use Rattle.ipx_limits.specs.Limits.{of_clients}
use Rattle.ipx_limits.specs.Deciding.{Account, has_room, used_then, passes, is_ping, is_question, is_told, may_ask, may_tell, may_hand, Handed}
use Rattle.ipx_limits.specs.Metered.{Use, Time, Comes, Came, Runs, elapsed, counted, Event, Passing, Decided, uses_by, any, time_of, passed, Handing, HandingRuns, PingingRuns, AnsweringRuns, PagingRuns}

-- ---- one limit

one_more : (count each : ℕ) → (1 + count) * each ≡ each + count * each
one_more count each = omega arith

fills : (limit : Limit) (old new : Meter) (uses : List Use) → Runs limit old uses new → counted uses * limit.each + old.used ≤ elapsed uses + new.used
fills limit old new [] run = omega (arith, ap (λ (m : Meter). m.used) run)
fills limit old new (Time ns ∷ uses) run =
    omega (arith, ap (λ (m : Meter). m.used) run.1, fills limit run.0 new uses run.2)
fills limit old new (Comes true ∷ uses) run =
    omega (arith, one_more (counted uses) limit.each, run.1.least, ap (λ (m : Meter). m.used) run.1.used, fills limit run.0 new uses run.2)
fills limit old new (Comes false ∷ uses) run =
    omega (arith, ap (λ (m : Meter). m.used) run.1.used, fills limit run.0 new uses run.2)

pub within : (limit : Limit) (old new : Meter) (uses : List Use) → Runs limit old uses new → old.used ≤ limit.burst → new.used ≤ limit.burst
within limit old new [] run fits = omega (arith, fits, ap (λ (m : Meter). m.used) run)
within limit old new (Time ns ∷ uses) run fits =
    within limit run.0 new uses run.2 (omega (arith, fits, ap (λ (m : Meter). m.used) run.1))
within limit old new (Comes true ∷ uses) run fits =
    let room : old.used + run.1.weight ≤ limit.burst = leb-true (old.used + run.1.weight) limit.burst (run.1.found refl) in
    within limit run.0 new uses run.2 (omega (arith, room, ap (λ (m : Meter). m.used) run.1.used))
within limit old new (Comes false ∷ uses) run fits =
    within limit run.0 new uses run.2 (omega (arith, fits, ap (λ (m : Meter). m.used) run.1.used))

-- what counts as much as the limit says
pub came : (limit : Limit) (counts : Bool) (old new : Meter) → (counts ≡ true → has_room limit old ≡ true) → new ≡ used_then limit counts old
    → Came limit counts old new
came limit counts old new found used = record { weight = limit.each; least = omega arith; found = found; used = used }

-- where an address has fewer clients just now each counts as much or more
fewer_clients : (limit : Limit) (clients now : ℕ) → now ≤ clients → (of_clients clients limit).each ≤ (of_clients now limit).each
fewer_clients limit clients now few =
    let all = max 1 (min clients 4) in
    let some = max 1 (min now 4) in
    let fewer : some ≤ all = omega (arith, few) in
    le-div (limit.each / all) limit.each some (omega arith) (omega (arith, mul-le-mul_left (limit.each / all) fewer, div-mul-le_self limit.each all))

came_shared : (limit : Limit) (clients now : ℕ) (counts : Bool) (old new : Meter) → now ≤ clients
    → (counts ≡ true → has_room (of_clients now limit) old ≡ true) → new ≡ used_then (of_clients now limit) counts old
    → Came (of_clients clients limit) counts old new
came_shared limit clients now counts old new few found used =
    record { weight = (of_clients now limit).each; least = fewer_clients limit clients now few; found = found; used = used }

pub at_most : (limit : Limit) (old new : Meter) (uses : List Use) → Runs limit old uses new → old.used ≤ limit.burst
    → counted uses * limit.each ≤ elapsed uses + limit.burst
at_most limit old new uses run fits = omega (arith, fills limit old new uses run, within limit old new uses run fits)

-- ---- what decisions are to one limit

elapsed_by : (is_of : Kind → Bool) (events : List Event) → elapsed (uses_by is_of events) ≡ time_of events
elapsed_by is_of [] = refl
elapsed_by is_of (Passing ns ∷ events) = ap (λ (t : ℕ). ns + t) (elapsed_by is_of events)
elapsed_by is_of (Decided kind decision ∷ events) = elapsed_by is_of events

counted_by : (is_of : Kind → Bool) (events : List Event) → counted (uses_by is_of events) ≡ passed is_of events
counted_by is_of [] = refl
counted_by is_of (Passing ns ∷ events) = counted_by is_of events
counted_by is_of (Decided kind decision ∷ events) =
    ap (λ (n : ℕ). (if is_of kind && passes decision then 1 else 0) + n) (counted_by is_of events)

pub at_most_of : (limit : Limit) (old new : Meter) (is_of : Kind → Bool) (events : List Event) → Runs limit old (uses_by is_of events) new
    → old.used ≤ limit.burst → passed is_of events * limit.each ≤ time_of events + limit.burst
at_most_of limit old new is_of events run fits =
    let most = at_most limit old new (uses_by is_of events) run fits in
    let counts : counted (uses_by is_of events) * limit.each ≡ passed is_of events * limit.each = ap (λ (n : ℕ). n * limit.each) (counted_by is_of events) in
    omega (arith, most, counts, elapsed_by is_of events)

-- ---- what passes found room

-- a contradiction proves that something is so
pub so : (b : Bool) → false ≡ true → b ≡ true
so b e = ap (λ (x : Bool). if x then true else b) e

all_three : (a b c : Bool) → passes (if not a then TooManyQuestions else if not b then TooManyAdvertisements else if not c then TooMuchForRouter else Passes) ≡ true
    → (a ≡ true) × (b ≡ true) × (c ≡ true)
all_three true true true e = (refl, refl, refl)
all_three true true false e = (refl, refl, e)
all_three true false c e = (refl, e, so c e)
all_three false b c e = (e, so b e, so c e)

handed_room : (limits : Limits) (kind : Kind) (handed : Meter) → may_hand limits kind handed ≡ true → has_room limits.handed handed ≡ true
handed_room limits Ping handed e = e
handed_room limits Answer handed e = (and_parts _ (has_room limits.handed handed) e).1
handed_room limits Question handed e = e
handed_room limits Told handed e = e
handed_room limits Other handed e = e

asked_room : (limits : Limits) (clients : ℕ) (kind : Kind) (client : Client) (address : Address) (b : Bool) → is_question kind && b ≡ true
    → may_ask limits clients kind client address ≡ true → has_room (of_clients clients limits.questions) address.asked ≡ true
asked_room limits clients Question client address b is e = (and_parts _ (has_room (of_clients clients limits.questions) address.asked) e).1
asked_room limits clients Ping client address b is e = so _ is
asked_room limits clients Answer client address b is e = so _ is
asked_room limits clients Told client address b is e = so _ is
asked_room limits clients Other client address b is e = so _ is

told_room : (limits : Limits) (kind : Kind) (advertised : Meter) (b : Bool) → is_told kind && b ≡ true
    → may_tell limits kind advertised ≡ true → has_room limits.advertisements advertised ≡ true
told_room limits Told advertised b is e = e
told_room limits Ping advertised b is e = so _ is
told_room limits Answer advertised b is e = so _ is
told_room limits Question advertised b is e = so _ is
told_room limits Other advertised b is e = so _ is

pub both_answer : (a b : Bool) → passes (if a && b then Passes else TooManyAnswers) ≡ true → (a ≡ true) × (b ≡ true)
both_answer true true e = (refl, refl)
both_answer true false e = (refl, e)
both_answer false b e = (e, so b e)

pub rooms : (limits : Limits) (now : ℕ) (kind : Kind) (decision : Decision) (client client' : Client) (address address' : Address) (account account' : Account)
    → Handed limits now kind decision client client' address address' account account' → passes decision ≡ true
    → (may_ask limits now kind client address ≡ true) × (may_tell limits kind account.advertised ≡ true) × (may_hand limits kind account.handed ≡ true)
rooms limits now kind decision client client' address address' account account' handed lets =
    all_three (may_ask limits now kind client address) (may_tell limits kind account.advertised) (may_hand limits kind account.handed)
    (sym (ap passes handed.decided) ∙ lets)

module _ (limits : Limits) (clients : ℕ) where
  pub handed_runs : (old new : Handing) (events : List Event) → HandingRuns limits clients old events new
      → Runs limits.handed old.account.handed (uses_by any events) new.account.handed
  handed_runs old new [] run = ap (λ (h : Handing). h.account.handed) run
  handed_runs old new (Passing ns ∷ events) run =
      (run.0.account.handed, ap (λ (a : Account). a.handed) run.1.1, handed_runs run.0 new events run.2)
  handed_runs old new (Decided kind decision ∷ events) run =
      let next = run.0 in
      let now = run.1.0 in
      let client = run.1.1.1.0 in
      let handed = run.1.1.1.1.1 in (
        next.account.handed,
        came limits.handed (passes decision) old.account.handed next.account.handed
            (
            λ lets. handed_room limits kind old.account.handed
            (rooms limits now kind decision client run.1.1.1.1.0 old.address next.address old.account next.account handed lets).2
            )
            (ap (λ (a : Account). a.handed) handed.of_account),
        handed_runs next new events run.2,
      )

  pub asked_runs : (old new : Handing) (events : List Event) → HandingRuns limits clients old events new
      → Runs (of_clients clients limits.questions) old.address.asked (uses_by is_question events) new.address.asked
  asked_runs old new [] run = ap (λ (h : Handing). h.address.asked) run
  asked_runs old new (Passing ns ∷ events) run =
      (run.0.address.asked, ap (λ (a : Address). a.asked) run.1.0, asked_runs run.0 new events run.2)
  asked_runs old new (Decided kind decision ∷ events) run =
      let next = run.0 in
      let now = run.1.0 in
      let client = run.1.1.1.0 in
      let handed = run.1.1.1.1.1 in (
        next.address.asked,
        came_shared limits.questions clients now (is_question kind && passes decision) old.address.asked next.address.asked run.1.1.0
            (
            λ counts. asked_room limits now kind client old.address (passes decision) counts
            (
            rooms limits now kind decision client run.1.1.1.1.0 old.address next.address old.account next.account handed
            (and_parts (is_question kind) (passes decision) counts).1
            ).0
            )
            (ap (λ (a : Address). a.asked) handed.of_address),
        asked_runs next new events run.2,
      )

  pub told_runs : (old new : Handing) (events : List Event) → HandingRuns limits clients old events new
      → Runs limits.advertisements old.account.advertised (uses_by is_told events) new.account.advertised
  told_runs old new [] run = ap (λ (h : Handing). h.account.advertised) run
  told_runs old new (Passing ns ∷ events) run =
      (run.0.account.advertised, ap (λ (a : Account). a.advertised) run.1.1, told_runs run.0 new events run.2)
  told_runs old new (Decided kind decision ∷ events) run =
      let next = run.0 in
      let now = run.1.0 in
      let client = run.1.1.1.0 in
      let handed = run.1.1.1.1.1 in (
        next.account.advertised,
        came limits.advertisements (is_told kind && passes decision) old.account.advertised next.account.advertised
            (
            λ counts. told_room limits kind old.account.advertised (passes decision) counts
            (
            rooms limits now kind decision client run.1.1.1.1.0 old.address next.address old.account next.account handed
            (and_parts (is_told kind) (passes decision) counts).1
            ).1
            )
            (ap (λ (a : Account). a.advertised) handed.of_account),
        told_runs next new events run.2,
      )

  -- ---- answers

  pub answered_runs : (old new : Address) (events : List Event) → AnsweringRuns limits clients old events new
      → Runs (of_clients clients limits.answers) old.answered (uses_by any events) new.answered
  answered_runs old new [] run = ap (λ (a : Address). a.answered) run
  answered_runs old new (Passing ns ∷ events) run = (run.0.answered, ap (λ (a : Address). a.answered) run.1, answered_runs run.0 new events run.2)
  answered_runs old new (Decided kind decision ∷ events) run =
      let now = run.1.0 in
      let client = run.1.1.1.0 in
      let answered = run.1.1.1.1.1 in (
        run.0.answered,
        came_shared limits.answers clients now (passes decision) old.answered run.0.answered run.1.1.0
            (
            λ lets. (
            both_answer (has_room limits.answers client.answered) (has_room (of_clients now limits.answers) old.answered)
            (sym (ap passes answered.decided) ∙ lets)
            ).1
            )
            (ap (λ (a : Address). a.answered) answered.of_address),
        answered_runs run.0 new events run.2,
      )

  pub paged_runs : (old new : Address) (events : List Event) → PagingRuns limits clients old events new
      → Runs (of_clients clients limits.pages) old.paged (uses_by any events) new.paged
  paged_runs old new [] run = ap (λ (a : Address). a.paged) run
  paged_runs old new (Passing ns ∷ events) run = (run.0.paged, ap (λ (a : Address). a.paged) run.1, paged_runs run.0 new events run.2)
  paged_runs old new (Decided kind decision ∷ events) run =
      let now = run.1.0 in
      let client = run.1.1.1.0 in
      let paged = run.1.1.1.1.1 in (
        run.0.paged,
        came_shared limits.pages clients now (passes decision) old.paged run.0.paged run.1.1.0
            (
            λ lets. (
            both_answer (has_room limits.pages client.paged) (has_room (of_clients now limits.pages) old.paged)
            (sym (ap passes paged.decided) ∙ lets)
            ).1
            )
            (ap (λ (a : Address). a.paged) paged.of_address),
        paged_runs run.0 new events run.2,
      )

-- ---- pings

pub both_ping : (ping a b : Bool) → ping ≡ true → passes (if ping && not (a && b) then TooManyPings else Passes) ≡ true → (a ≡ true) × (b ≡ true)
both_ping true true true is e = (refl, refl)
both_ping true true false is e = (refl, e)
both_ping true false b is e = (e, so b e)
both_ping false a b is e = (so a is, so b is)

one_pings : (ping a : Bool) → ping ≡ true → passes (if ping && not a then TooManyPings else Passes) ≡ true → a ≡ true
one_pings true true is e = refl
one_pings true false is e = e
one_pings false a is e = so a is

pub pinged_runs : (limits : Limits) (old new : Meter) (events : List Event) → PingingRuns limits old events new
    → Runs limits.all_pings old (uses_by is_ping events) new
pinged_runs limits old new [] run = run
pinged_runs limits old new (Passing ns ∷ events) run = (run.0, run.1, pinged_runs limits run.0 new events run.2)
pinged_runs limits old new (Decided kind decision ∷ events) run = (
  run.0,
  elim run.1 [
    | inl by_client ↦
        let client = by_client.0 in
        let pinged = by_client.1.1 in
        came limits.all_pings (is_ping kind && passes decision) old run.0
        (
        λ counts. (
        both_ping (is_ping kind) (has_room limits.pings client.pinged) (has_room limits.all_pings old)
        (and_parts (is_ping kind) (passes decision) counts).0
        (sym (ap passes pinged.decided) ∙ (and_parts (is_ping kind) (passes decision) counts).1)
        ).1
        )
        pinged.of_all
    | inr in_frame ↦
        came limits.all_pings (is_ping kind && passes decision) old run.0
        (
        λ counts. one_pings (is_ping kind) (has_room limits.all_pings old) (and_parts (is_ping kind) (passes decision) counts).0
        (sym (ap passes in_frame.decided) ∙ (and_parts (is_ping kind) (passes decision) counts).1)
        )
        in_frame.of_all
  ],
  pinged_runs limits run.0 new events run.2,
)
