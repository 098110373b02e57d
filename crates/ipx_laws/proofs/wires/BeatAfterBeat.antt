-- Beats, one after the other: what is so of each router after so many seconds, and of each flight, stays so, if each event leaves it so.
use Rattle.std.proofs.Common.{◌≡◌, ◌≢◌, refl, sym, ap, subst, ℕ, zero, suc, ◌+◌, ◌-◌, ◌<◌, ◌≤◌, nat_le, true, false, Bool, if◌then◌else◌, List, [], ◌∷◌, ◌++◌, length, map, flat_map, Option, None, Some, slice_get, inl, inr, arith}
use Rattle.std.specs.List.{AllByRecursion}
use Rattle.std.proofs.lemmas.Bool.{cases_lt, leb-true}
use Rattle.ipx_router.specs.History.{Event, History, Packet, IsOnPort, IsOfBytes}
use Rattle.ipx_internet.specs.Internet.{Internet, IsInternet, ports_of}
use Rattle.ipx_internet.specs.Queue.{Delivery, deliveries_of, history_of, with_event, sends_at}
use Rattle.ipx_internet.specs.Rounds.{IsDelivery}
use Rattle.ipx_internet.specs.Run.{Happens, IsStep, AreHistories}
use Rattle.ipx_internet.specs.Ticks.{seconds_of}
use Rattle.ipx_internet.proofs.deliveries.WaitsAfterDelivery.{there}
use Rattle.ipx_internet.proofs.lists.EachElement.{all-append, all_mapped}
use Rattle.ipx_internet.proofs.lists.FoundInAList.{nothing, it_is}
use Rattle.ipx_internet.proofs.packets.SentOnOrReply.{Layouts}
use Rattle.ipx_internet.proofs.ticks.TickCanBeHad.{seconds_more}
use Rattle.ipx_internet.proofs.trees.RunIsALog.{histories_more}
use Rattle.ipx_laws.specs.Wires.{Flight, Wires, WireStep, Occurs, Lands, as_step, flying, beaten, occurs, lands, wired, wires_of, beats_of, Along, EachBeat, IsBeat}
use Rattle.ipx_laws.proofs.records.RecordsGrowOld.{passed}
use Rattle.ipx_laws.proofs.ticks.EventOfOneRouter.{passed_more, own_seconds, each_so}
use Rattle.ipx_laws.proofs.ticks.TickAfterTick.{second_there}

-- what is so of each of a list is so of one that is found in it
pub found_at : {X : Type 0} (P : X → Type 0) (xs : List X) (k : ℕ) (x : X) → AllByRecursion P xs → slice_get xs k ≡ Some x → P x
found_at P [] k x all e = nothing e
found_at P (y ∷ xs) zero x all e = it_is P x y e all.0
found_at P (y ∷ xs) (suc k) x all e = found_at P xs k x all.1 e

passed_few : (event : Event) → passed event 0 ≤ 1
passed_few event = grind arith

-- what is so along a beat is so before it
pub along_first : (net : Internet) (most_routes most_services delay : ℕ) (Is : Wires → Type 0) (w : Wires) (steps : List WireStep)
    → Along net most_routes most_services delay Is w steps → Is w
along_first net most_routes most_services delay Is w [] along = along
along_first net most_routes most_services delay Is w (step ∷ steps) along = along.0

-- and says something else
pub along_then : (net : Internet) (most_routes most_services delay : ℕ) (Is So : Wires → Type 0) → ((w : Wires) → Is w → So w) → (w : Wires) (steps : List WireStep)
    → Along net most_routes most_services delay Is w steps → Along net most_routes most_services delay So w steps
along_then net most_routes most_services delay Is So so w [] along = so w along
along_then net most_routes most_services delay Is So so w (step ∷ steps) along =
    (so w along.0, along_then net most_routes most_services delay Is So so (wired net most_routes most_services delay w step) steps along.1)

-- what is always so
pub along_all : (net : Internet) (most_routes most_services delay : ℕ) (Is : Wires → Type 0) → ((w : Wires) → Is w) → (w : Wires) (steps : List WireStep)
    → Along net most_routes most_services delay Is w steps
along_all net most_routes most_services delay Is all w [] = all w
along_all net most_routes most_services delay Is all w (step ∷ steps) =
    (all w, along_all net most_routes most_services delay Is all (wired net most_routes most_services delay w step) steps)

pub each_all : (net : Internet) (most_routes most_services delay : ℕ) (Is : Wires → Type 0) → ((w : Wires) → Is w) → (w : Wires) (beats : List (List WireStep))
    → EachBeat net most_routes most_services delay (Along net most_routes most_services delay Is) w beats
each_all net most_routes most_services delay Is all w [] = tt
each_all net most_routes most_services delay Is all w (steps ∷ beats) = (
  along_all net most_routes most_services delay Is all w steps,
  each_all net most_routes most_services delay Is all (beaten (wires_of net most_routes most_services delay w steps)) beats,
)

module _ (net : Internet) (laws : Layouts) (is : IsInternet net) (most_routes most_services delay : ℕ) (Lasts : ℕ → ℕ → History → Type 0) (Flies : Flight → Type 0)
    (Arises : ℕ → List History → ℕ → Event → Type 0) (Good : List History → Type 0) where
  -- ---- one event of a router, when so many beats have ended

  -- where it happens
  pub record Happening (histories : List History) (router : ℕ) (event : Event) : Type 0 where
    pub are : AreHistories net histories
    pub within : router < length net
    pub on : IsOnPort (ports_of net router) event
    pub of_bytes : IsOfBytes event
    pub good : Good histories
    pub good_now : Good (with_event histories router event)

  -- the router stays such with a second more, if the event is one, while so many beats and one more have no fewer
  abbrev pub Leaves : ℕ → List History → ℕ → Event → Type 0
  Leaves beats histories router event =
      (had : ℕ) → passed event had ≤ suc beats → Lasts router had (history_of histories router) → Lasts router (passed event had) (history_of histories router ++ event ∷ [])

  -- and all that it sends flies from then on
  abbrev pub Sends : ℕ → List History → ℕ → Event → Type 0
  Sends beats histories router event =
      Lasts router beats (history_of histories router) → Lasts router (passed event beats) (history_of histories router ++ event ∷ [])
      → AllByRecursion (λ d. Flies (record { delivery = d; sent = beats }))
      (flat_map (deliveries_of net router) (sends_at net most_routes most_services histories router event))

  abbrev pub arrival : Flight → Event
  arrival f = Packet f.delivery.to.port f.delivery.bytes

  -- what is asked of each event: of one that comes from outside, and of a flight that lands in time
  pub record Keeps : Type 0 where
    pub weakens : (router : ℕ) (history : History) → Lasts router 1 history → Lasts router 0 history
    pub delivers : (f : Flight) → Flies f → IsDelivery net f.delivery
    pub occurs_leaves : (beats : ℕ) (histories : List History) (router : ℕ) (event : Event) → Happening histories router event → Arises beats histories router event
        → Leaves beats histories router event
    pub occurs_sends : (beats : ℕ) (histories : List History) (router : ℕ) (event : Event) → Happening histories router event → Arises beats histories router event
        → Sends beats histories router event
    pub lands_leaves : (beats : ℕ) (histories : List History) (f : Flight) → Happening histories f.delivery.to.router (arrival f) → Flies f → beats ≤ f.sent + delay
        → Leaves beats histories f.delivery.to.router (arrival f)
    pub lands_sends : (beats : ℕ) (histories : List History) (f : Flight) → Happening histories f.delivery.to.router (arrival f) → Flies f → beats ≤ f.sent + delay
        → Sends beats histories f.delivery.to.router (arrival f)

  -- ---- while a beat goes on

  -- so many beats have ended, and each router had that many seconds since then, of which one counts
  pub record Going (beats : ℕ) (seconds : ℕ → ℕ) (w : Wires) : Type 0 where
    pub count : w.beats ≡ beats
    pub are : AreHistories net w.histories
    pub routers : (router had : ℕ) → router < length net → had ≤ beats + seconds router → had ≤ suc beats → Lasts router had (history_of w.histories router)
    pub flights : AllByRecursion Flies w.flights

  -- what comes from outside in a step is such
  abbrev pub StepArises : Wires → WireStep → Type 0
  StepArises w (Occurs router event) = Arises w.beats w.histories router event
  StepArises w (Lands which) = Unit

  abbrev pub StepsArise : Wires → List WireStep → Type 0
  StepsArise w [] = Unit
  StepsArise w (step ∷ steps) = StepArises w step × StepsArise (wired net most_routes most_services delay w step) steps

  -- and the ports are as they should be, before each step and after it
  pub record AreSuch (w : Wires) (steps : List WireStep) : Type 0 where
    pub arise : StepsArise w steps
    pub good : Along net most_routes most_services delay (λ now. Good now.histories) w steps

  module _ (keeps : Keeps) where
    -- one event
    module _ (w : Wires) (seconds more : ℕ → ℕ) (router : ℕ) (event : Event) (place : Happening w.histories router event)
        (leaves : Leaves w.beats w.histories router event) (sends : Sends w.beats w.histories router event)
        (own : more router ≡ passed event 0 + seconds router) (others : (other : ℕ) → other ≢ router → more other ≡ seconds other)
        (going : Going w.beats seconds w) where
      abbrev past : History
      past = history_of w.histories router

      abbrev now : List History
      now = with_event w.histories router event

      listed : router < length w.histories
      listed = grind (arith, place.within, going.are)

      are_now : AreHistories net now
      are_now = histories_more net w.histories router event going.are place.within place.on place.of_bytes

      -- with a second less before it
      lasted : (had : ℕ) → had ≤ w.beats + more router → had ≤ suc w.beats → Lasts router had (past ++ event ∷ [])
      lasted had most few = elim (cases_lt had (passed event 0)) [
        | inl less ↦
            let none : 0 ≡ had = omega (arith, less, passed_few event) in
            let one : passed event 0 ≡ 1 = omega (arith, less, passed_few event) in
            subst (λ (n : ℕ). Lasts router n (past ++ event ∷ [])) none
            (keeps.weakens router (past ++ event ∷ [])
            (subst (λ (n : ℕ). Lasts router n (past ++ event ∷ [])) one
            (leaves 0 (omega (arith, one)) (going.routers router 0 place.within (omega arith) (omega arith)))))
        | inr some ↦
            let before = had - passed event 0 in
            let sum : passed event before ≡ had = omega (arith, passed_more event before, some) in
            subst (λ (n : ℕ). Lasts router n (past ++ event ∷ [])) sum
            (leaves before (omega (arith, sum, few)) (going.routers router before place.within (omega (arith, own, most, some)) (omega (arith, few))))
      ]

      all_fly : AllByRecursion Flies (map (λ d. record { delivery = d; sent = w.beats })
          (flat_map (deliveries_of net router) (sends_at net most_routes most_services w.histories router event)))
      all_fly =
          let first = going.routers router w.beats place.within (omega arith) (omega arith) in
          all_mapped Flies (λ d. record { delivery = d; sent = w.beats })
          (flat_map (deliveries_of net router) (sends_at net most_routes most_services w.histories router event))
          (sends first (lasted (passed event w.beats) (omega (arith, own, passed_more event w.beats)) (omega (arith, passed_more event w.beats, passed_few event))))

      pub event_goes : Going w.beats more (occurs net most_routes most_services delay w router event)
      event_goes = record {
        count = refl;
        are = are_now;
        routers = λ other had inside most few. each_so (λ k h. Lasts k had h) w.histories router event listed other
            (λ same. lasted had (subst (λ (k : ℕ). had ≤ w.beats + more k) same most) few)
            (λ off. let same = others other off in going.routers other had inside (omega (arith, most, same)) few);
        flights = all-append Flies w.flights _ going.flights all_fly;
      }

    -- where fewer seconds are counted
    fewer : (beats : ℕ) (seconds less : ℕ → ℕ) (w : Wires) → ((router : ℕ) → less router ≤ seconds router) → Going beats seconds w → Going beats less w
    fewer beats seconds less w few going = record {
      count = going.count;
      are = going.are;
      routers = λ router had inside most last. let no_more = few router in going.routers router had inside (omega (arith, most, no_more)) last;
      flights = going.flights;
    }

    -- ---- steps

    counted : (router : ℕ) (event : Event) (other : ℕ) → other ≢ router → seconds_of other (Happens router event ∷ []) ≡ 0
    counted router event other off = second_there router other event [] off

    event_counts : (w : Wires) (seconds : ℕ → ℕ) (router : ℕ) (event : Event) → Happening w.histories router event
        → Leaves w.beats w.histories router event → Sends w.beats w.histories router event → Going w.beats seconds w
        → Going w.beats (λ other. seconds_of other (Happens router event ∷ []) + seconds other) (occurs net most_routes most_services delay w router event)
    event_counts w seconds router event place leaves sends going =
        event_goes w seconds (λ other. seconds_of other (Happens router event ∷ []) + seconds other) router event place leaves sends
        (omega (arith, own_seconds router event [])) (λ other off. omega (arith, counted router event other off)) going

    module _ (w : Wires) (seconds : ℕ → ℕ) (going : Going w.beats seconds w) (good : Good w.histories) where
      lands_goes : (f : Flight) → Flies f → Good (lands net most_routes most_services delay w f).histories → Going w.beats seconds (lands net most_routes most_services delay w f)
      lands_goes f flies good_now = by (nat_le w.beats (f.sent + delay)) refl good_now
        where
          at : Wires
          at = occurs net most_routes most_services delay w f.delivery.to.router (arrival f)

          by : (c : Bool) → nat_le w.beats (f.sent + delay) ≡ c → Good (if c then at else w).histories → Going w.beats seconds (if c then at else w)
          by false e good_now = going
          by true e good_now =
              let delivery = keeps.delivers f flies in
              let timely = leb-true w.beats (f.sent + delay) e in
              let place : Happening w.histories f.delivery.to.router (arrival f) = record {
                are = going.are;
                within = there net laws is most_routes most_services w.histories going.are f.delivery delivery;
                on = delivery.place;
                of_bytes = delivery.bytes;
                good = good;
                good_now = good_now;
              } in
              event_goes w seconds seconds f.delivery.to.router (arrival f) place
              (keeps.lands_leaves w.beats w.histories f place flies timely) (keeps.lands_sends w.beats w.histories f place flies timely)
              (omega arith) (λ other off. refl) going

      abbrev found : Option Flight → Wires
      found o = elim o [ Some f ↦ lands net most_routes most_services delay w f | None ↦ w ]

      found_goes : (o : Option Flight) → ((f : Flight) → o ≡ Some f → Flies f) → Good (found o).histories → Going w.beats seconds (found o)
      found_goes None fly good_now = going
      found_goes (Some f) fly good_now = lands_goes f (fly f refl) good_now

    step_counts : (w : Wires) (seconds : ℕ → ℕ) (step : WireStep) → IsStep net (as_step step) → StepArises w step → Good w.histories
        → Good (wired net most_routes most_services delay w step).histories → Going w.beats seconds w
        → Going w.beats (λ router. seconds_of router (as_step step ∷ []) + seconds router) (wired net most_routes most_services delay w step)
    step_counts w seconds (Occurs router event) (within, on, of_bytes) arises good good_now going =
        let place : Happening w.histories router event = record { are = going.are; within = within; on = on; of_bytes = of_bytes; good = good; good_now = good_now } in
        event_counts w seconds router event place (keeps.occurs_leaves w.beats w.histories router event place arises)
        (keeps.occurs_sends w.beats w.histories router event place arises) going
    step_counts w seconds (Lands which) is_step arises good good_now going =
        let next = wired net most_routes most_services delay w (Lands which) in
        fewer w.beats seconds (λ router. seconds_of router (as_step (Lands which) ∷ []) + seconds router) next (λ router. omega arith)
        (found_goes w seconds going good (slice_get w.flights which) (λ f e. found_at Flies w.flights which f going.flights e) good_now)

    pub step_goes : (beats : ℕ) (w : Wires) (seconds : ℕ → ℕ) (step : WireStep) → IsStep net (as_step step) → StepArises w step → Good w.histories
        → Good (wired net most_routes most_services delay w step).histories → Going beats seconds w
        → Going beats (λ router. seconds_of router (as_step step ∷ []) + seconds router) (wired net most_routes most_services delay w step)
    step_goes beats w seconds step is_step arises good good_now going =
        subst (λ (n : ℕ). Going n (λ router. seconds_of router (as_step step ∷ []) + seconds router) (wired net most_routes most_services delay w step)) going.count
        (step_counts w seconds step is_step arises good good_now (subst (λ (n : ℕ). Going n seconds w) (sym going.count) going))

    pub more_seconds : (step : WireStep) (steps : List WireStep) (router : ℕ)
        → seconds_of router (map as_step (step ∷ steps)) ≡ seconds_of router (as_step step ∷ []) + seconds_of router (map as_step steps)
    more_seconds step steps router = seconds_more router (as_step step ∷ []) (map as_step steps)

    steps_go : (beats : ℕ) (steps : List WireStep) (w : Wires) (seconds : ℕ → ℕ) → AllByRecursion (λ step. IsStep net (as_step step)) steps → AreSuch w steps
        → Going beats seconds w → Going beats (λ router. seconds_of router (map as_step steps) + seconds router) (wires_of net most_routes most_services delay w steps)
    steps_go beats [] w seconds are such going = fewer beats seconds (λ router. seconds_of router [] + seconds router) w (λ router. omega arith) going
    steps_go beats (step ∷ steps) w seconds are such going =
        let next = wired net most_routes most_services delay w step in
        let later = step_goes beats w seconds step are.0 such.arise.0 such.good.0 (along_first net most_routes most_services delay (λ now. Good now.histories) next steps such.good.1) going in
        fewer beats (λ router. seconds_of router (map as_step steps) + (seconds_of router (as_step step ∷ []) + seconds router))
        (λ router. seconds_of router (map as_step (step ∷ steps)) + seconds router) (wires_of net most_routes most_services delay next steps)
        (λ router. omega (arith, more_seconds step steps router))
        (steps_go beats steps next (λ router. seconds_of router (as_step step ∷ []) + seconds router) are.1
        (record { arise = such.arise.1; good = such.good.1 }) later)

    -- what follows from it is so at each moment
    pub steps_each : (Is : Wires → Type 0) (beats : ℕ) → ((seconds : ℕ → ℕ) (now : Wires) → Going beats seconds now → Is now) → (steps : List WireStep) (w : Wires)
        (seconds : ℕ → ℕ) → AllByRecursion (λ step. IsStep net (as_step step)) steps → AreSuch w steps → Going beats seconds w
        → Along net most_routes most_services delay Is w steps
    steps_each Is beats so [] w seconds are such going = so seconds w going
    steps_each Is beats so (step ∷ steps) w seconds are such going =
        let next = wired net most_routes most_services delay w step in
        let counted_now : ℕ → ℕ = λ router. seconds_of router (as_step step ∷ []) + seconds router in (
          so seconds w going,
          steps_each Is beats so steps next counted_now are.1 (record { arise = such.arise.1; good = such.good.1 })
              (step_goes beats w seconds step are.0 such.arise.0 such.good.0
              (along_first net most_routes most_services delay (λ now. Good now.histories) next steps such.good.1) going),
        )

    -- ---- beats

    pub beat_goes : (beats : ℕ) (steps : List WireStep) (w : Wires) → IsBeat net steps → AreSuch w steps → Going beats (λ router. 0) w
        → Going (suc beats) (λ router. 0) (beaten (wires_of net most_routes most_services delay w steps))
    beat_goes beats steps w beat such going =
        let after = steps_go beats steps w (λ router. 0) beat.happens such going in
        record {
          count = ap suc after.count;
          are = after.are;
          routers = λ router had inside most last.
              let some = beat.each router inside in
              after.routers router had inside (omega (arith, most, some)) (omega (arith, most));
          flights = after.flights;
        }

    pub beats_go : (so_far : ℕ) (beats : List (List WireStep)) (w : Wires) → AllByRecursion (IsBeat net) beats
        → EachBeat net most_routes most_services delay AreSuch w beats → Going so_far (λ router. 0) w
        → Going (length beats + so_far) (λ router. 0) (beats_of net most_routes most_services delay w beats)
    beats_go so_far [] w are such going = let none : so_far ≡ 0 + so_far = omega arith in subst (λ (n : ℕ). Going n (λ router. 0) w) none going
    beats_go so_far (steps ∷ beats) w are such going =
        let next = beaten (wires_of net most_routes most_services delay w steps) in
        let sum : length beats + suc so_far ≡ length (steps ∷ beats) + so_far = omega arith in
        subst (λ (n : ℕ). Going n (λ router. 0) (beats_of net most_routes most_services delay next beats)) sum
        (beats_go (suc so_far) beats next are.1 such.1 (beat_goes so_far steps w are.0 such.0 going))

    pub starts : (histories : List History) (deliveries : List Delivery) → AreHistories net histories
        → ((router : ℕ) → router < length net → Lasts router 0 (history_of histories router))
        → AllByRecursion (λ d. Flies (record { delivery = d; sent = 0 })) deliveries → Going 0 (λ router. 0) (flying histories deliveries)
    starts histories deliveries are first fly = record {
      count = refl;
      are = are;
      routers = λ router had inside most few.
          let none : 0 ≡ had = omega (arith, most) in
          subst (λ (n : ℕ). Lasts router n (history_of histories router)) none (first router inside);
      flights = all_mapped Flies (λ d. record { delivery = d; sent = 0 }) deliveries fly;
    }
