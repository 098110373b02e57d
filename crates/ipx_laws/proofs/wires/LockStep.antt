-- Lock step is an instance of wires: a busy tick is a beat with no delay, in which what is handed out lands.
use Rattle.std.proofs.Common.{◌≡◌, refl, sym, ap, ap₂, ◌∙◌, subst, ℕ, suc, ◌+◌, ◌-◌, ◌≤◌, nat_le, true, List, [], ◌∷◌, ◌++◌, length, map, flat_map, Some, None, slice_get, inl, inr, arith, append_assoc, append-nil}
use Rattle.std.specs.List.{AllByRecursion}
use Rattle.std.proofs.lemmas.Bool.{le-leb}
use Rattle.std.proofs.lemmas.List.{map-append, length-append, length-map}
use Rattle.ipx_wire.specs.declared.network.Network.{Network}
use Rattle.ipx_wire.specs.declared.service.Service.{Service}
use Rattle.ipx_router.specs.Heard.{Heard}
use Rattle.ipx_router.specs.History.{Event, History, Packet}
use Rattle.ipx_internet.specs.BusyTick.{IsBusyTick}
use Rattle.ipx_internet.specs.Internet.{Internet, Place, ports_of}
use Rattle.ipx_internet.specs.Queue.{Delivery, Queued, deliveries_of, history_of, sends_at, queued, settled_one}
use Rattle.ipx_internet.specs.Run.{Step, Happens, Settles, Run, Waiting, forgotten, stepped, run_of}
use Rattle.ipx_internet.specs.Ticks.{seconds_of, ticked}
use Rattle.ipx_internet.proofs.deliveries.QueueOfARun.{events, deliveries}
use Rattle.ipx_laws.specs.Announces.{IsAccepted, IsSaid, IsAnnounced}
use Rattle.ipx_laws.specs.Gone.{IsGone}
use Rattle.ipx_laws.specs.HeardInTicks.{IsHeardOutside, InSteps, InTicks}
use Rattle.ipx_laws.specs.Meanwhile.{EachStep, StaysGone, EachTick}
use Rattle.ipx_laws.specs.WireAnnounces.{WasSaid, WasAnnounced}
use Rattle.ipx_laws.specs.Wires.{Flight, Wires, WireStep, Occurs, Lands, as_step, still, beaten, occurs, lands, wired, wires_of, beats_of, Along, InSteps as InWireSteps, InBeats, KeepGone, AreBeats, EachWireStep}
use Rattle.ipx_laws.proofs.lists.FirstAndRest.{first_of, rest_of, none_first}
use Rattle.ipx_laws.proofs.tables.TablesAreRight.{parts_of as ticks_parts}
use Rattle.ipx_laws.proofs.ticks.AfterEachStep.{AfterEach}
use Rattle.ipx_laws.proofs.wires.BeatAfterBeat.{along_first}

-- what stands behind some, and behind all
found_after : {X : Type 0} (front : List X) (x : X) (back : List X) → slice_get (front ++ x ∷ back) (length front) ≡ Some x
found_after [] x back = refl
found_after (y ∷ front) x back = found_after front x back

none_behind : {X : Type 0} (xs : List X) → slice_get xs (length xs) ≡ None
none_behind [] = refl
none_behind (x ∷ xs) = none_behind xs

module _ (net : Internet) (most_routes most_services : ℕ) where
  abbrev by : Run → List Step → Run
  by = run_of net most_routes most_services

  abbrev one : Run → Step → Run
  one = stepped net most_routes most_services

  abbrev wire : Wires → WireStep → Wires
  wire = wired net most_routes most_services 0

  abbrev wires : Wires → List WireStep → Wires
  wires = wires_of net most_routes most_services 0

  -- ---- steps, ticks

  -- the deliveries that wait are the last of all that was ever sent
  abbrev pub as_wire : Run → Wires → Step → WireStep
  as_wire run w (Happens router event) = Occurs router event
  as_wire run w Settles = Lands (length w.flights - length (forgotten run).queue)

  abbrev pub as_beat : Run → Wires → List Step → List WireStep
  as_beat run w [] = []
  as_beat run w (step ∷ steps) = as_wire run w step ∷ as_beat (one run step) (wire w (as_wire run w step)) steps

  abbrev pub as_beats : Run → Wires → List (List Step) → List (List WireStep)
  as_beats run w [] = []
  as_beats run w (steps ∷ ticks) = as_beat run w steps ∷ as_beats (by run steps) (beaten (wires w (as_beat run w steps))) ticks

  -- ---- what is said of steps

  as_it_was : (run : Run) (w : Wires) (step : Step) → as_step (as_wire run w step) ≡ step
  as_it_was run w (Happens router event) = refl
  as_it_was run w Settles = refl

  pub same_steps : (run : Run) (w : Wires) (steps : List Step) → map as_step (as_beat run w steps) ≡ steps
  same_steps run w [] = refl
  same_steps run w (Happens router event ∷ steps) = ap (λ rest. Happens router event ∷ rest) (same_steps (one run (Happens router event)) (wire w (Occurs router event)) steps)
  same_steps run w (Settles ∷ steps) = ap (λ rest. Settles ∷ rest) (same_steps (one run Settles) (wire w (as_wire run w Settles)) steps)

  pub same_ticks : (run : Run) (w : Wires) (ticks : List (List Step)) → map (map as_step) (as_beats run w ticks) ≡ ticks
  same_ticks run w [] = refl
  same_ticks run w (steps ∷ ticks) =
      let next = beaten (wires w (as_beat run w steps)) in
      ap (λ first. first ∷ map (map as_step) (as_beats (by run steps) next ticks)) (same_steps run w steps) ∙ ap (λ rest. steps ∷ rest) (same_ticks (by run steps) next ticks)

  pub as_many : (run : Run) (w : Wires) (ticks : List (List Step)) → length (as_beats run w ticks) ≡ length ticks
  as_many run w [] = refl
  as_many run w (steps ∷ ticks) = ap suc (as_many (by run steps) (beaten (wires w (as_beat run w steps))) ticks)

  -- ---- one after the other

  pub beat_more : (run : Run) (w : Wires) (steps more : List Step)
      → as_beat run w (steps ++ more) ≡ as_beat run w steps ++ as_beat (by run steps) (wires w (as_beat run w steps)) more
  beat_more run w [] more = refl
  beat_more run w (step ∷ steps) more =
      let here = as_wire run w step in
      ap (λ (rest : List WireStep). here ∷ rest) (beat_more (one run step) (wire w here) steps more)

  pub beats_more : (run : Run) (w : Wires) (ticks more : List (List Step))
      → as_beats run w (ticks ++ more)
      ≡ as_beats run w ticks ++ as_beats (ticked net most_routes most_services run ticks) (beats_of net most_routes most_services 0 w (as_beats run w ticks)) more
  beats_more run w [] more = refl
  beats_more run w (steps ∷ ticks) more =
      let here = as_beat run w steps in
      ap (λ (rest : List (List WireStep)). here ∷ rest) (beats_more (by run steps) (beaten (wires w here)) ticks more)

  -- the ticks of the first of the beats, and those of the rest
  pub record Parts (run : Run) (w : Wires) (ticks : List (List Step)) (front rest : List (List WireStep)) : Type 0 where
    pub first : List (List Step)
    pub later : List (List Step)
    pub whole : ticks ≡ first ++ later
    pub fore : as_beats run w first ≡ front
    pub behind : as_beats (ticked net most_routes most_services run first) (beats_of net most_routes most_services 0 w front) later ≡ rest

  pub parts_of : (run : Run) (w : Wires) (ticks : List (List Step)) (front rest : List (List WireStep)) → as_beats run w ticks ≡ front ++ rest
      → Parts run w ticks front rest
  parts_of run w ticks [] rest parts = record { first = []; later = ticks; whole = refl; fore = refl; behind = parts }
  parts_of run w [] (x ∷ front) rest parts = none_first x (front ++ rest) parts
  parts_of run w (steps ∷ ticks) (x ∷ front) rest parts =
      let here = as_beat run w steps in
      let next = by run steps in
      let now = beaten (wires w here) in
      let same = first_of here x (as_beats next now ticks) (front ++ rest) parts in
      let inner = parts_of next now ticks front rest (rest_of here x (as_beats next now ticks) (front ++ rest) parts) in
      record {
        first = steps ∷ inner.first;
        later = inner.later;
        whole = ap (λ (ts : List (List Step)). steps ∷ ts) inner.whole;
        fore = ap₂ (λ (y : List WireStep) (ys : List (List WireStep)). y ∷ ys) same inner.fore;
        behind =
            subst (λ (y : List WireStep).
            as_beats (ticked net most_routes most_services next inner.first) (beats_of net most_routes most_services 0 (beaten (wires w y)) front) inner.later ≡ rest) same inner.behind;
      }

  beat_says : (Says : Step → Type 0) (run : Run) (w : Wires) (steps : List Step) → AllByRecursion Says steps
      → AllByRecursion (λ step. Says (as_step step)) (as_beat run w steps)
  beat_says Says run w [] says = tt
  beat_says Says run w (step ∷ steps) says =
      (subst Says (sym (as_it_was run w step)) says.0, beat_says Says (one run step) (wire w (as_wire run w step)) steps says.1)

  pub beats_say : (Says : Step → Type 0) (run : Run) (w : Wires) (ticks : List (List Step)) → EachStep Says ticks → EachWireStep Says (as_beats run w ticks)
  beats_say Says run w [] says = tt
  beats_say Says run w (steps ∷ ticks) says =
      (beat_says Says run w steps says.0, beats_say Says (by run steps) (beaten (wires w (as_beat run w steps))) ticks says.1)

  pub are_beats : (run : Run) (w : Wires) (ticks : List (List Step)) → EachTick net most_routes most_services (IsBusyTick net most_routes most_services) run ticks
      → AreBeats net (as_beats run w ticks)
  are_beats run w [] busy = tt
  are_beats run w (steps ∷ ticks) busy = (
    record {
      happens = beat_says _ run w steps busy.0.happens;
      each = λ router within.
          let some = busy.0.each router within in
          subst (λ (same : List Step). 1 ≤ seconds_of router same) (sym (same_steps run w steps)) (omega (arith, some));
    },
    are_beats (by run steps) (beaten (wires w (as_beat run w steps))) ticks busy.1,
  )

  -- ---- the same happens

  abbrev flown : ℕ → List Delivery → List Flight
  flown beats queue = map (λ d. record { delivery = d; sent = beats }) queue

  -- routers had the same events, and what waits was sent in this beat, after all that landed
  pub record Follows (run : Run) (w : Wires) : Type 0 where
    pub queue : List Delivery
    pub same : forgotten run ≡ record { histories = w.histories; queue = queue }
    pub landed : List Flight
    pub flights : w.flights ≡ landed ++ flown w.beats queue

  -- what is sent for an event waits behind
  sent_behind : (w : Wires) (queue ds : List Delivery) (landed : List Flight) → w.flights ≡ landed ++ flown w.beats queue
      → w.flights ++ flown w.beats ds ≡ landed ++ flown w.beats (queue ++ ds)
  sent_behind w queue ds landed flights =
      ap (λ (fs : List Flight). fs ++ flown w.beats ds) flights ∙ append_assoc landed (flown w.beats queue) (flown w.beats ds)
      ∙ ap (λ (fs : List Flight). landed ++ fs) (sym (map-append (λ d. record { delivery = d; sent = w.beats }) queue ds))

  event_follows : (run : Run) (w : Wires) (queue : List Delivery) (landed : List Flight) (router : ℕ) (event : Event)
      → forgotten run ≡ queued net most_routes most_services (record { histories = w.histories; queue = queue }) router event
      → w.flights ≡ landed ++ flown w.beats queue → Follows run (occurs net most_routes most_services 0 w router event)
  event_follows run w queue landed router event same flights =
      let ds = flat_map (deliveries_of net router) (sends_at net most_routes most_services w.histories router event) in
      record { queue = queue ++ ds; same = same; landed = landed; flights = sent_behind w queue ds landed flights }

  -- the first that waits is the next to land
  pub first_waits : (w : Wires) (d : Delivery) (queue : List Delivery) (landed : List Flight) → w.flights ≡ landed ++ flown w.beats (d ∷ queue)
      → slice_get w.flights (length w.flights - length (d ∷ queue)) ≡ Some (record { delivery = d; sent = w.beats })
  first_waits w d queue landed flights =
      let first : Flight = record { delivery = d; sent = w.beats } in
      let before : length landed ≡ length (landed ++ first ∷ flown w.beats queue) - length (d ∷ queue) =
      omega (arith, length-append landed (first ∷ flown w.beats queue), length-map {B = Flight} queue (λ q. record { delivery = q; sent = w.beats })) in
      subst (λ (fs : List Flight). slice_get fs (length fs - length (d ∷ queue)) ≡ Some first) (sym flights)
      (subst (λ (n : ℕ). slice_get (landed ++ first ∷ flown w.beats queue) n ≡ Some first) before (found_after landed first (flown w.beats queue)))

  settles_follows : (run : Run) (w : Wires) (queue : List Delivery) (landed : List Flight)
      → forgotten run ≡ settled_one net most_routes most_services (record { histories = w.histories; queue = queue })
      → w.flights ≡ landed ++ flown w.beats queue → Follows run (wire w (Lands (length w.flights - length queue)))
  settles_follows run w [] landed same flights =
      let all : length w.flights ≡ length w.flights - 0 = omega arith in
      let none : slice_get w.flights (length w.flights - 0) ≡ None = subst (λ (n : ℕ). slice_get w.flights n ≡ None) all (none_behind w.flights) in
      rw (none, wired) (record { queue = []; same = same; landed = landed; flights = flights })
  settles_follows run w (d ∷ queue) landed same flights =
      let first : Flight = record { delivery = d; sent = w.beats } in
      let timely : nat_le w.beats (w.beats + 0) ≡ true = le-leb w.beats (w.beats + 0) (omega arith) in
      rw (first_waits w d queue landed flights, wired) (rw (timely, lands)
      (event_follows run w queue (landed ++ first ∷ []) d.to.router (Packet d.to.port d.bytes) same
      (flights ∙ sym (append_assoc landed (first ∷ []) (flown w.beats queue)))))

  pub step_follows : (run : Run) (w : Wires) (step : Step) → Follows run w → Follows (one run step) (wire w (as_wire run w step))
  step_follows run w (Happens router event) follows =
      event_follows (one run (Happens router event)) w follows.queue follows.landed router event
      (events net most_routes most_services run router event None
      ∙ ap (λ (q : Queued). queued net most_routes most_services q router event) follows.same) follows.flights
  step_follows run w Settles follows =
      subst (λ (q : Queued). Follows (one run Settles) (wire w (Lands (length w.flights - length q.queue)))) (sym follows.same)
      (settles_follows (one run Settles) w follows.queue follows.landed
      (deliveries net most_routes most_services run ∙ ap (settled_one net most_routes most_services) follows.same) follows.flights)

  pub steps_follow : (run : Run) (w : Wires) (steps : List Step) → Follows run w → Follows (by run steps) (wires w (as_beat run w steps))
  steps_follow run w [] follows = follows
  steps_follow run w (step ∷ steps) follows = steps_follow (one run step) (wire w (as_wire run w step)) steps (step_follows run w step follows)

  -- where nothing waits, in the next beat too, and at first
  pub quiet_follows : (run : Run) (w : Wires) (landed : List Flight) → w.histories ≡ run.histories → run.waiting ≡ [] → w.flights ≡ landed → Follows run w
  quiet_follows run w landed same quiet flights = record {
    queue = [];
    same = ap (λ (waiting : List Waiting). record { histories = run.histories; queue = map (λ d. d.delivery) waiting }) quiet
        ∙ ap (λ (hs : List History). record { histories = hs; queue = [] }) (sym same);
    landed = landed;
    flights = flights ∙ sym (append-nil landed);
  }

  pub same_histories : (run : Run) (w : Wires) → Follows run w → w.histories ≡ run.histories
  same_histories run w follows = sym (ap (λ (q : Queued). q.histories) follows.same)

  pub follows_still : (run : Run) → run.waiting ≡ [] → Follows run (still run.histories)
  follows_still run quiet = quiet_follows run (still run.histories) [] refl quiet refl

  pub tick_follows : (run : Run) (w : Wires) (steps : List Step) → IsBusyTick net most_routes most_services run steps → Follows run w
      → Follows (by run steps) (beaten (wires w (as_beat run w steps)))
  tick_follows run w steps tick follows =
      let next = wires w (as_beat run w steps) in
      quiet_follows (by run steps) (beaten next) next.flights (same_histories (by run steps) next (steps_follow run w steps follows)) tick.quiet refl

  pub ticks_follow : (run : Run) (w : Wires) (ticks : List (List Step)) → EachTick net most_routes most_services (IsBusyTick net most_routes most_services) run ticks
      → Follows run w → Follows (ticked net most_routes most_services run ticks) (beats_of net most_routes most_services 0 w (as_beats run w ticks))
  ticks_follow run w [] busy follows = follows
  ticks_follow run w (steps ∷ ticks) busy follows =
      ticks_follow (by run steps) (beaten (wires w (as_beat run w steps))) ticks busy.1 (tick_follows run w steps busy.0 follows)

  -- ---- what is so of one of the steps

  -- what is heard from outside in a step of a tick is heard in that of the beat
  pub heard_outside : (to : Place) (Says : Heard → Type 0) (run : Run) (w : Wires) (step : Step) → Follows run w
      → IsHeardOutside net to Says run.histories step → IsHeardOutside net to Says w.histories (as_step (as_wire run w step))
  heard_outside to Says run w step follows heard =
      subst (IsHeardOutside net to Says w.histories) (sym (as_it_was run w step))
      (subst (λ (hs : List History). IsHeardOutside net to Says hs step) (sym (same_histories run w follows)) heard)

  module _ (Is : Run → Step → Type 0) (So : Wires → WireStep → Type 0)
      (so : (run : Run) (w : Wires) (step : Step) → Follows run w → Is run step → So w (as_wire run w step)) where
    steps_so : (Later : Run → Type 0) (After : Wires → Type 0) (run : Run) (w : Wires) (steps : List Step) → Follows run w
        → (Later (by run steps) → After (wires w (as_beat run w steps))) → InSteps net most_routes most_services Is Later run steps
        → InWireSteps net most_routes most_services 0 So After w (as_beat run w steps)
    steps_so Later After run w [] follows next later = next later
    steps_so Later After run w (step ∷ steps) follows next (inl now) = inl (so run w step follows now)
    steps_so Later After run w (step ∷ steps) follows next (inr later) =
        inr (steps_so Later After (one run step) (wire w (as_wire run w step)) steps (step_follows run w step follows) next later)

    pub ticks_so : (run : Run) (w : Wires) (ticks : List (List Step)) → EachTick net most_routes most_services (IsBusyTick net most_routes most_services) run ticks
        → Follows run w → InTicks net most_routes most_services Is run ticks → InBeats net most_routes most_services 0 So w (as_beats run w ticks)
    ticks_so run w [] busy follows none = none
    ticks_so run w (steps ∷ ticks) busy follows found =
        let next = by run steps in
        let now = beaten (wires w (as_beat run w steps)) in
        steps_so (λ last. InTicks net most_routes most_services Is last ticks)
        (λ last. InBeats net most_routes most_services 0 So (beaten last) (as_beats next now ticks))
        run w steps follows (λ later. ticks_so next now ticks busy.1 (tick_follows run w steps busy.0 follows) later) found

  -- what is so of routers all along a beat is so after each step of the tick
  pub after_each : (Is : List History → Type 0) (run : Run) (w : Wires) (steps : List Step) → Follows run w
      → Along net most_routes most_services 0 (λ now. Is now.histories) w (as_beat run w steps)
      → AfterEach net most_routes most_services (λ now. Is now.histories) run steps
  after_each Is run w [] follows along = tt
  after_each Is run w (step ∷ steps) follows along =
      let next = wire w (as_wire run w step) in
      let then_follows = step_follows run w step follows in (
        subst Is (same_histories (one run step) next then_follows)
            (along_first net most_routes most_services 0 (λ now. Is now.histories) next (as_beat (one run step) next steps) along.1),
        after_each Is (one run step) next steps then_follows along.1,
      )

  -- ---- networks that stay gone

  beat_gone : (network : Network) (run : Run) (w : Wires) (steps : List Step) → Follows run w → StaysGone net most_routes most_services network run steps
      → Along net most_routes most_services 0 (λ now. IsGone net now.histories network) w (as_beat run w steps)
  beat_gone network run w [] follows gone = subst (λ (hs : List History). IsGone net hs network) (sym (same_histories run w follows)) gone
  beat_gone network run w (step ∷ steps) follows gone = (
    subst (λ (hs : List History). IsGone net hs network) (sym (same_histories run w follows)) gone.0,
    beat_gone network (one run step) (wire w (as_wire run w step)) steps (step_follows run w step follows) gone.1,
  )

  pub keep_gone : (network : Network) (run : Run) (w : Wires) (ticks : List (List Step))
      → EachTick net most_routes most_services (IsBusyTick net most_routes most_services) run ticks → Follows run w
      → EachTick net most_routes most_services (StaysGone net most_routes most_services network) run ticks
      → KeepGone net most_routes most_services 0 network w (as_beats run w ticks)
  keep_gone network run w [] busy follows gone = tt
  keep_gone network run w (steps ∷ ticks) busy follows gone = (
    beat_gone network run w steps follows gone.0,
    keep_gone network (by run steps) (beaten (wires w (as_beat run w steps))) ticks busy.1 (tick_follows run w steps busy.0 follows) gone.1,
  )

  -- ---- in the middle of a beat

  within_a_beat : (run : Run) (w : Wires) (steps : List Step) (earlier later : List WireStep) → as_beat run w steps ≡ earlier ++ later → Follows run w
      → Follows (by run (map as_step earlier)) (wires w earlier)
  within_a_beat run w steps [] later parts follows = follows
  within_a_beat run w [] (x ∷ earlier) later parts follows = none_first x (earlier ++ later) parts
  within_a_beat run w (step ∷ steps) (x ∷ earlier) later parts follows =
      let here = as_wire run w step in
      let next = wire w here in
      let behind = as_beat (one run step) next steps in
      let after = within_a_beat (one run step) next steps earlier later (rest_of here x behind (earlier ++ later) parts) (step_follows run w step follows) in
      subst (λ (y : WireStep). Follows (by (one run (as_step y)) (map as_step earlier)) (wires (wire w y) earlier)) (first_of here x behind (earlier ++ later) parts)
      (subst (λ (s : Step). Follows (by (one run s) (map as_step earlier)) (wires next earlier)) (sym (as_it_was run w step)) after)

  -- ---- from a run where nothing waits, through busy ticks

  module _ (run : Run) (quiet : run.waiting ≡ []) (ticks : List (List Step)) where
    abbrev pub beats_from : List (List WireStep)
    beats_from = as_beats run (still run.histories) ticks

    module _ (busy : EachTick net most_routes most_services (IsBusyTick net most_routes most_services) run ticks) where
      pub same_last : (beats_of net most_routes most_services 0 (still run.histories) beats_from).histories ≡ (ticked net most_routes most_services run ticks).histories
      same_last =
          same_histories (ticked net most_routes most_services run ticks) (beats_of net most_routes most_services 0 (still run.histories) beats_from)
          (ticks_follow run (still run.histories) ticks busy (follows_still run quiet))

      -- what was said in these beats was said in these ticks
      said : (s : Service) → WasSaid net most_routes most_services 0 (still run.histories) beats_from s → IsSaid net most_routes most_services run ticks s
      said s was = in_tick parts.later parts.whole parts.behind
        where
          parts : Parts run (still run.histories) ticks was.before (was.beat ∷ was.after)
          parts = parts_of run (still run.histories) ticks was.before (was.beat ∷ was.after) was.of_beats

          last : Run
          last = ticked net most_routes most_services run parts.first

          now : Wires
          now = beats_of net most_routes most_services 0 (still run.histories) was.before

          in_tick : (later : List (List Step)) → ticks ≡ parts.first ++ later → as_beats last now later ≡ was.beat ∷ was.after
              → IsSaid net most_routes most_services run ticks s
          in_tick [] whole same = none_first was.beat was.after same
          in_tick (steps ∷ later) whole same =
              let step = Occurs was.router (Packet was.number was.bytes) in
              let beat = first_of (as_beat last now steps) was.beat _ was.after same ∙ was.of_beat in
              let front = (ticks_parts net most_routes most_services (IsBusyTick net most_routes most_services) run parts.first (steps ∷ later)
              (subst (λ (ts : List (List Step)). EachTick net most_routes most_services (IsBusyTick net most_routes most_services) run ts) whole busy)).0 in
              let follows = subst (λ (bs : List (List WireStep)). Follows last (beats_of net most_routes most_services 0 (still run.histories) bs)) parts.fore
              (ticks_follow run (still run.histories) parts.first front (follows_still run quiet)) in
              record {
                before = parts.first;
                tick = steps;
                after = later;
                of_ticks = whole;
                earlier = map as_step was.earlier;
                router = was.router;
                number = was.number;
                bytes = was.bytes;
                later = map as_step was.later;
                of_tick = sym (same_steps last now steps) ∙ ap (map as_step) beat ∙ map-append as_step was.earlier (step ∷ was.later);
                accepted = subst (λ (hs : List History). IsAccepted (ports_of net was.router) most_routes most_services (history_of hs was.router) was.number was.bytes)
                    (same_histories (by last (map as_step was.earlier)) (wires now was.earlier)
                    (within_a_beat last now steps was.earlier (step ∷ was.later) beat follows)) was.accepted;
                message = was.message;
                heard = was.heard;
                which_entry = was.which_entry;
                says = was.says;
              }

      pub announced : (s : Service) → WasAnnounced net most_routes most_services 0 (still run.histories) beats_from s → IsAnnounced net most_routes most_services run ticks s
      announced s was = record { hops = was.hops; no_more = was.no_more; said = said (record s { hops = was.hops }) was.said }
