-- Once all tables are right, each router has after each step of a tick the route that it had when the tick began.
use Rattle.std.proofs.Common.{◌≡◌, refl, sym, ◌∙◌, ℕ, suc, ◌-◌, ◌<◌, ◌≤◌, List, [], ◌∷◌, length, Option, None, Some, inl, inr, arith, is_eq, ◌==◌}
use Rattle.ipx_router.specs.Routes.{network_order}
use Rattle.ipx_router.specs.declared.route_offer.RouteOffer.{RouteOffer}
use Rattle.ipx_internet.specs.Queue.{history_of}
use Rattle.ipx_internet.specs.Run.{Step, Run, forgotten, stepped, run_of}
use Rattle.ipx_laws.specs.Apart.{RouteStays}
use Rattle.ipx_laws.specs.Gone.{most_ticks_gone}
use Rattle.ipx_laws.specs.Least.{Way, most_ticks_right}
use Rattle.ipx_laws.specs.Tables.{routes_of, route_of as held_of}
use Rattle.ipx_laws.specs.Upkeep.{steps_of}
use Rattle.ipx_laws.proofs.tables.Given.{Given}
use Rattle.ipx_laws.proofs.tables.LeastWays.{within, on_or_off, OnOrOff}
use Rattle.ipx_laws.proofs.tables.RightWithinAMinute.{AtRest, route_of, RightedOf, kept, begins_right, ended, held_now, tick_rests, find_same, tied}
use Rattle.ipx_laws.proofs.tables.SaysWhatItKnows.{wants}
use Rattle.ipx_laws.proofs.tables.TablesAreRight.{none_on, none_without}
use Rattle.ipx_laws.proofs.ticks.AfterEachStep.{AfterEach, each_then, each-append, goes_each}
use Rattle.ipx_laws.proofs.ticks.RealOrSoonEnded.{Endures}
use Rattle.ipx_laws.proofs.ticks.TickAfterTick.{IsCalmTick, CalmTicks, left_of}

module _ (given : Given) where
  open given use {net, laws, is, up, in_ports, most_routes, most_services, foreign, network}

  abbrev Rest : ℕ → Run → Type 0
  Rest = AtRest given

  abbrev RouteOf : Run → ℕ → Option RouteOffer
  RouteOf = route_of given

  -- each router has the route to the network that it has in another run
  abbrev pub SameRoute : Run → Run → Type 0
  SameRoute first now = (router : ℕ) → router < length net → RouteOf now router ≡ RouteOf first router

  -- ---- one tick

  module _ (before : ℕ) (steady : most_ticks_right ≤ before) (run : Run) (steps : List Step) (rest : Rest before run)
      (tick : IsCalmTick net most_routes most_services foreign run steps) where
    long : most_ticks_gone ≤ before
    long = omega (arith, steady)

    abbrev Righted_of : (ℕ → ℕ) → Run → Type 0
    Righted_of left now =
        RightedOf given before long run steps rest tick left (forgotten now)

    same_now : (left : ℕ → ℕ) (now : Run) → Righted_of left now → SameRoute run now
    same_now left now righted router inside = by (on_or_off net up in_ports network router) (within net up in_ports network 15 router) refl
      where
        enough : most_ticks_gone ≤ suc before - left router
        enough =
            let one = (righted.going.few router inside).0 in
            omega (arith, one, steady)

        endures_now : Endures 0 0 net up foreign most_routes router (suc before - left router) (history_of now.histories router)
        endures_now =
            let some = (righted.going.few router inside).1 in
            righted.going.routers router (suc before - left router) inside (omega (arith, some))

        by : OnOrOff net up in_ports network router → (o : Option Way) → within net up in_ports network 15 router ≡ o → RouteOf now router ≡ RouteOf run router
        by (inl on) o e =
            none_on given router (suc before - left router) enough
            (history_of now.histories router) endures_now on
            ∙ sym (none_on given router before long
            (history_of run.histories router) (rest.rests.routers router inside) on)
        by (inr off) None e =
            none_without given router (suc before - left router) enough
            (history_of now.histories router) endures_now e
            ∙ sym (none_without given router before long
            (history_of run.histories router) (rest.rests.routers router inside) e)
        by (inr off) (Some v) e =
            held_now given before long run steps rest tick left now righted router
            (wants given router v off e) steady

    each_same : AfterEach net most_routes most_services (SameRoute run) run steps
    each_same =
        goes_each net laws is most_routes most_services up foreign
        (RightedOf given before long run steps rest tick)
        (kept given before long run steps rest tick)
        (SameRoute run) same_now steps run tick.busy.happens tick.leaves tick.says
        (begins_right given before long run steps rest tick)

    last_same : SameRoute run (run_of net most_routes most_services run steps)
    last_same =
        same_now (left_of net laws is most_routes most_services up foreign []) (run_of net most_routes most_services run steps)
        (ended given before long run steps rest tick)

  -- ---- ticks, one after the other

  pub routes_stay : (so_far : ℕ) → most_ticks_right ≤ so_far → (first run : Run) (ticks : List (List Step)) → Rest so_far run
      → CalmTicks net most_routes most_services foreign run ticks → SameRoute first run → AfterEach net most_routes most_services (SameRoute first) run (steps_of ticks)
  routes_stay so_far steady first run [] rest are same = tt
  routes_stay so_far steady first run (steps ∷ ticks) rest are same =
      let next = run_of net most_routes most_services run steps in
      let long : most_ticks_gone ≤ so_far = omega (arith, steady) in
      each-append net most_routes most_services (SameRoute first) run steps (steps_of ticks)
      (each_then net most_routes most_services (SameRoute run) (SameRoute first) (λ now stays router inside. stays router inside ∙ same router inside) run steps
      (each_same so_far steady run steps rest are.0))
      (routes_stay (suc so_far) (omega (arith, steady)) first next ticks
      (tick_rests given so_far long run steps rest are.0) are.1
      (λ router inside. last_same so_far steady run steps rest are.0 router inside ∙ same router inside))

  -- the route by the network's number
  by_number : (run : Run) (router : ℕ) → held_of net most_routes run.histories router network ≡ RouteOf run router
  by_number run router =
      find_same (λ r. r.network.0 == network.0) (λ o. is_eq (network_order o.network network)) (λ r. tied r.network.0 network.0)
      (routes_of net most_routes run.histories router)

  pub route_stays_in : (first run : Run) (steps : List Step) → AfterEach net most_routes most_services (SameRoute first) run steps
      → RouteStays net most_routes most_services network first.histories run steps
  route_stays_in first run [] same = tt
  route_stays_in first run (step ∷ steps) same =
      let next = stepped net most_routes most_services run step in
      (λ router inside. by_number next router ∙ same.0 router inside ∙ sym (by_number first router), route_stays_in first next steps same.1)
