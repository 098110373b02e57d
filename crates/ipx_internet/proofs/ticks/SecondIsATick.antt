-- The second of an internet in memory: the seconds of its routers, by their numbers, and then deliveries; and that it is a tick.
use Rattle.std.proofs.lemmas.Grind.{common_steps}
use Rattle.std.proofs.Common.{◌≡◌, refl, sym, ap, ◌∙◌, subst, ℕ, zero, suc, ◌+◌, ◌<◌, ◌≤◌, List, [], ◌∷◌, ◌++◌, length, map, replicate, take, None, Result, OnOk, OnErr, IfOk, inl, inr, arith, length-append}
use Rattle.std.specs.List.{AllByRecursion}
use Rattle.std.proofs.Math.Seq.{take-append-add, take-length}
use Rattle.std.proofs.lemmas.Bool.{cases_lt}
use Rattle.std.proofs.lemmas.List.{length-map, take-append-le}
use Rattle.ipx_router.specs.History.{Second}
use Rattle.ipx_router.specs.Port.{numbers}
use Rattle.ipx_internet.specs.Internet.{Internet}
use Rattle.ipx_internet.specs.Moment.{Moment, StandsFor, net_at}
use Rattle.ipx_internet.specs.Passed.{HasPassed, PassesShort, HasTicked}
use Rattle.ipx_internet.specs.Queue.{Delivery, Queued, queued, settled}
use Rattle.ipx_internet.specs.Run.{Step, Happens, Settles, Run, forgotten, stepped, run_of}
use Rattle.ipx_internet.specs.Settled.{HasSettled, IsToldOf, StopsShort}
use Rattle.ipx_internet.specs.Ticks.{IsOfTick, IsTick, AreTicks, ticked, a_tick}
use Rattle.ipx_internet.specs.declared.internet.Settled.{Settled}
use Rattle.ipx_internet.specs.declared.internet.Settled.TheVariants.{Quiet}
use Rattle.ipx_internet.proofs.deliveries.QueueOfARun.{events, many_deliveries}
use Rattle.ipx_internet.proofs.lists.EachElement.{all-append, all_mapped, numbers_below, all_then}
use Rattle.ipx_internet.proofs.ticks.TickCanBeHad.{seconds_by, seconds_then, one_of, none_waits}

-- the seconds of the first routers
abbrev second : ℕ → Step
second router = Happens router Second

abbrev pub seconds : ℕ → List Step
seconds count = map second (numbers count)

length-numbers : (n : ℕ) → length (numbers n) ≡ n
length-numbers zero = refl
length-numbers (suc n) = grind (arith, length-numbers n, length-append)

length-seconds : (n : ℕ) → length (seconds n) ≡ n
length-seconds n = length-map (numbers n) second ∙ length-numbers n

length-replicate_step : (n : ℕ) → length (replicate n Settles) ≡ n
length-replicate_step n = grind (arith, common_steps)

mapped : (xs ys : List ℕ) → map second (xs ++ ys) ≡ map second xs ++ map second ys
mapped xs ys = grind (arith, common_steps)

seconds_more : (n : ℕ) → seconds (suc n) ≡ seconds n ++ second n ∷ []
seconds_more n = mapped (numbers n) (n ∷ [])

module _ (most_routes most_services : ℕ) where
  pub run_more : (net : Internet) (run : Run) (first rest : List Step)
      → run_of net most_routes most_services run (first ++ rest) ≡ run_of net most_routes most_services (run_of net most_routes most_services run first) rest
  run_more net run [] rest = refl
  run_more net run (step ∷ first) rest = run_more net (stepped net most_routes most_services run step) first rest

  -- ---- the seconds

  pub none_yet : (m : Moment) → HasPassed most_routes most_services (seconds 0) m m
  none_yet m run stands = stands

  pub one_more : (n : ℕ) (old now new : Moment) → net_at now ≡ net_at old → HasPassed most_routes most_services (seconds n) old now
      → ((q : Queued) → StandsFor most_routes most_services now q → StandsFor most_routes most_services new (queued (net_at now) most_routes most_services q n Second))
      → HasPassed most_routes most_services (seconds (n + 1)) old new
  one_more n old now new same before one run stands =
      let net = net_at old in
      let so_far = run_of net most_routes most_services run (seconds n) in
      let next : n + 1 ≡ suc n = omega arith in
      subst (λ (q : Queued). StandsFor most_routes most_services new q)
      (ap (λ (it : Internet). queued it most_routes most_services (forgotten so_far) n Second) same
      ∙ sym (events net most_routes most_services so_far n Second None)
      ∙ ap forgotten (sym (run_more net run (seconds n) (second n ∷ [])))
      ∙ ap (λ (steps : List Step). forgotten (run_of net most_routes most_services run steps)) (sym (seconds_more n) ∙ ap seconds (sym next)))
      (one (forgotten so_far) (before run stands))

  -- ---- and the deliveries

  pub then_settled : (n limit : ℕ) (old now new : Moment) → net_at now ≡ net_at old → HasPassed most_routes most_services (seconds n) old now
      → HasSettled most_routes most_services limit now new → HasPassed most_routes most_services (a_tick n limit) old new
  then_settled n limit old now new same before settles run stands =
      let net = net_at old in
      let so_far = run_of net most_routes most_services run (seconds n) in
      subst (λ (q : Queued). StandsFor most_routes most_services new q)
      (ap (λ (it : Internet). settled it most_routes most_services limit (forgotten so_far)) same
      ∙ sym (many_deliveries net most_routes most_services so_far limit)
      ∙ ap forgotten (sym (run_more net run (seconds n) (replicate limit Settles))))
      (settles (forgotten so_far) (before run stands))

  -- ---- a tick

  all_settle : (net : Internet) (n : ℕ) → AllByRecursion (IsOfTick net) (replicate n Settles)
  all_settle net zero = tt
  all_settle net (suc n) = (tt, all_settle net n)

  pub is_ticked : (limit : ℕ) (old new : Moment) → HasPassed most_routes most_services (a_tick (length old.routers) limit) old new → new.queue ≡ []
      → HasTicked most_routes most_services 1 old new
  is_ticked limit old new passed none run stands =
      let net = net_at old in
      let count = length old.routers in
      let each : length net ≡ count = length-map old.routers (λ s. s.ports) in
      let steps = a_tick count limit in
      let after = passed run stands in
      let tick : IsTick net most_routes most_services run steps = record {
        passes =
            all-append (IsOfTick net) (seconds count) (replicate limit Settles)
            (all_mapped (IsOfTick net) second (numbers count)
            (all_then (λ k. k < count) (λ k. IsOfTick net (second k)) (λ k within. (omega (arith, within, each), refl)) (numbers count) (numbers_below count)))
            (all_settle net limit);
        each = λ router within. seconds_then router (seconds count) limit (seconds_by router (numbers count) ∙ one_of router count (omega (arith, within, each)));
        quiet = none_waits (run_of net most_routes most_services run steps).waiting (sym after.queue ∙ none);
      } in
      record { ticks = steps ∷ []; many = refl; are = (tick, tt); stands = after }

  -- ---- where memory runs out

  pub short_in_seconds : (count limit k : ℕ) (old now new : Moment) → k < count → new ≡ now → HasPassed most_routes most_services (seconds k) old now
      → PassesShort most_routes most_services (a_tick count limit) old new
  short_in_seconds count limit k old now new less same before = record {
    count = k;
    few = let all = length-append (seconds count) (replicate limit Settles) in let some = length-seconds count in omega (arith, all, some, less);
    passed = λ run stands.
        subst (λ (steps : List Step). StandsFor most_routes most_services new (forgotten (run_of (net_at old) most_routes most_services run steps)))
        (sym (take-append-le k (seconds count) (replicate limit Settles) (let some = length-seconds count in omega (arith, some, less)) ∙ taken k count less))
        (subst (λ (m : Moment). StandsFor most_routes most_services m (forgotten (run_of (net_at old) most_routes most_services run (seconds k)))) (sym same) (before run stands));
  }
    where
      taken : (k count : ℕ) → k < count → take k (seconds count) ≡ seconds k
      taken k zero less = absurd (omega (arith, less))
      taken k (suc n) less =
          ap (take k) (seconds_more n) ∙ take-append-le k (seconds n) (second n ∷ []) (let some = length-seconds n in omega (arith, some, less))
          ∙ elim (cases_lt k n) [
            | inl few ↦ taken k n few
            | inr from ↦
                let here : k ≡ length (seconds n) = let some = length-seconds n in omega (arith, from, less, some) in
                let also : n ≡ k = omega (arith, from, less) in
                ap (λ j. take j (seconds n)) here ∙ take-length (seconds n) ∙ ap seconds also
          ]

  pub short_in_deliveries : (count limit : ℕ) (old now new : Moment) → net_at now ≡ net_at old → HasPassed most_routes most_services (seconds count) old now
      → StopsShort most_routes most_services limit now new → PassesShort most_routes most_services (a_tick count limit) old new
  short_in_deliveries count limit old now new same before short = record {
    count = count + short.count;
    few =
        let all = length-append (seconds count) (replicate limit Settles) in
        let some = length-seconds count in
        let others = length-replicate_step limit in
        let few = short.few in
        omega (arith, all, some, others, few);
    passed = λ run stands.
        subst (λ (steps : List Step). StandsFor most_routes most_services new (forgotten (run_of (net_at old) most_routes most_services run steps)))
        (sym (ap (λ k. take (k + short.count) (a_tick count limit)) (sym (length-seconds count)) ∙ take-append-add (seconds count) (replicate limit Settles) short.count
        ∙ ap (λ (steps : List Step). seconds count ++ steps) (taken short.count limit (let few = short.few in omega (arith, few)))))
        (then_settled count short.count old now new same before short.settled run stands);
  }
    where
      taken : (k n : ℕ) → k ≤ n → take k (replicate n Settles) ≡ replicate k Settles
      taken zero n few = refl
      taken (suc k) zero few = absurd (omega (arith, few))
      taken (suc k) (suc n) few = ap (λ (steps : List Step). Settles ∷ steps) (taken k n (omega (arith, few)))

  -- ---- ticks, and then some more

  ticks_join : (net : Internet) (run : Run) (ticks further : List (List Step)) → AreTicks net most_routes most_services run ticks
      → AreTicks net most_routes most_services (ticked net most_routes most_services run ticks) further
      → AreTicks net most_routes most_services run (ticks ++ further)
      × (ticked net most_routes most_services (ticked net most_routes most_services run ticks) further ≡ ticked net most_routes most_services run (ticks ++ further))
  ticks_join net run [] further are more = (more, refl)
  ticks_join net run (steps ∷ ticks) further are more = grind (arith, ticks_join net (run_of net most_routes most_services run steps) ticks further are.1 more)

  pub none_ticked : (m : Moment) → HasTicked most_routes most_services 0 m m
  none_ticked m run stands = record { ticks = []; many = refl; are = tt; stands = stands }

  pub more_ticks : (n m : ℕ) (old now new : Moment) → net_at now ≡ net_at old → HasTicked most_routes most_services n old now
      → HasTicked most_routes most_services m now new → HasTicked most_routes most_services (n + m) old new
  more_ticks n m old now new same before then_ticked run stands =
      let net = net_at old in
      let first = before run stands in
      let here = ticked net most_routes most_services run first.ticks in
      let more = then_ticked here first.stands in
      let are : AreTicks net most_routes most_services here more.ticks = subst (λ (it : Internet). AreTicks it most_routes most_services here more.ticks) same more.are in
      let joined = ticks_join net run first.ticks more.ticks first.are are in
      record {
        ticks = first.ticks ++ more.ticks;
        many = length-append first.ticks more.ticks ∙ ap (λ k. k + length more.ticks) first.many ∙ ap (λ k. n + k) more.many;
        are = joined.0;
        stands =
            subst (λ (r : Run). StandsFor most_routes most_services new (forgotten r))
            (ap (λ (it : Internet). ticked it most_routes most_services here more.ticks) same ∙ joined.1) more.stands;
      }

-- ---- what is said of an answer

pub on_ok : {X E : Type 0} (r : Result X E) (A B : Type 0) → (A → B) → OnOk r A → OnOk r B
on_ok r A B step is = grind arith

pub on_err : {X E : Type 0} (r : Result X E) (A B : Type 0) → (A → B) → OnErr r A → OnErr r B
on_err r A B step is = grind arith

-- where it is that none is left, after what is told of it
pub where_quiet : {E : Type 0} (r : Result Settled E) (queue : List Delivery) (A B : Type 0) → (A → queue ≡ [] → B) → OnOk r A → IfOk r (IsToldOf queue)
    → IfOk r (λ s. s ≡ Quiet → B)
where_quiet r queue A B step is told = grind arith
