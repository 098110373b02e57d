-- Ticks, one after the other, once all routes are real: a period later, from `most_ticks_right` on, each router has the least way to
-- every network that it wants, and its route stays so.
use Rattle.std.proofs.Common.{◌≡◌, refl, sym, ap, ◌∙◌, subst, ◌⊎◌, ℕ, zero, suc, ◌+◌, ◌%◌, ◌<◌, ◌≤◌, ◌==◌, Bool, true, false, List, [], ◌∷◌, length, map, find, Option, None, Some, inl, inr, arith, is_eq, rules}
use Rattle.std.specs.List.{AllByRecursion}
use Rattle.std.proofs.lemmas.Bool.{cases_Bool, cases_eq, cases_lt, eq-eqb, ne_eqb, both_ways}
use Rattle.std.proofs.lemmas.Nat.{mod_below}
use Rattle.ipx_table.specs.declared.held.Held.{Held}
use Rattle.ipx_router.specs.Numbers.{period}
use Rattle.ipx_router.specs.Facts.{route_facts, routes_held, offers}
use Rattle.ipx_router.specs.History.{History, seconds_run}
use Rattle.ipx_router.specs.Port.{is_up}
use Rattle.ipx_router.specs.Routes.{network_order}
use Rattle.ipx_router.specs.declared.route_offer.RouteOffer.{RouteOffer}
use Rattle.ipx_internet.specs.Internet.{Place, ports_of}
use Rattle.ipx_internet.specs.Queue.{Delivery, Queued, history_of}
use Rattle.ipx_internet.specs.Rounds.{IsDelivery}
use Rattle.ipx_internet.specs.Run.{Step, Run, Waiting, forgotten, run_of}
use Rattle.ipx_internet.specs.Ticks.{ticked}
use Rattle.ipx_internet.proofs.trees.RunIsALog.{router_there}
use Rattle.ipx_laws.specs.Gone.{most_ticks_gone}
use Rattle.ipx_laws.specs.Least.{Way, way_of, most_ticks_right}
use Rattle.ipx_laws.proofs.packets.RoutesOrSilence.{TellsApart}
use Rattle.ipx_laws.proofs.tables.DeliveryKeepsRight.{delivery_rights}
use Rattle.ipx_laws.proofs.tables.Given.{Given}
use Rattle.ipx_laws.proofs.tables.GoodRoutesStay.{right_way}
use Rattle.ipx_laws.proofs.tables.LastWords.{WantsOf, Sources, known_by, IsGood, foreign_fine, Ends, Waits, Righted, waits_unsteady}
use Rattle.ipx_laws.proofs.tables.LeastWays.{within, came, same_some, is_there}
use Rattle.ipx_laws.proofs.tables.NoRouteIsBetter.{there_where_up, a_source}
use Rattle.ipx_laws.proofs.tables.RoomForEachNetwork.{same_where_equal, equal_where_same}
use Rattle.ipx_laws.proofs.tables.SaysWhatItKnows.{RightFor, found_there}
use Rattle.ipx_laws.proofs.tables.SecondKeepsRight.{second_rights}
use Rattle.ipx_laws.proofs.ticks.TickAfterTick.{IsCalmTick, CalmTicks, IsKept, going_kept, steps_so, left_of, Rests, begins, ends}

-- a clock that goes round
next_clock : (n : ℕ) → ((n + 1) % period ≡ n % period + 1) ⊎ (((n + 1) % period ≡ 0) × (n % period + 1 ≡ period))
next_clock n = grind arith

-- two tests that say the same find the same
pub find_same : {X : Type 0} (p q : X → Bool) → ((x : X) → p x ≡ q x) → (xs : List X) → find p xs ≡ find q xs
find_same p q same xs = grind arith

pub find_none : {X : Type 0} (p : X → Bool) (xs : List X) → AllByRecursion (λ x. p x ≡ false) xs → find p xs ≡ None
find_none p [] all = refl
find_none p (x ∷ xs) all = rw all.0 (find_none p xs all.1)

pub tied : (a b : ℕ) → (a == b) ≡ is_eq (network_order (record { 0 = a }) (record { 0 = b }))
tied a b = elim (cases_eq a b) [
  | inl same ↦ eq-eqb a b same ∙ sym (equal_where_same a b same)
  | inr off ↦ by (cases_Bool (is_eq (network_order (record { 0 = a }) (record { 0 = b }))))
]
  where
    by : (is_eq (network_order (record { 0 = a }) (record { 0 = b })) ≡ true) ⊎ (is_eq (network_order (record { 0 = a }) (record { 0 = b })) ≡ false)
        → (a == b) ≡ is_eq (network_order (record { 0 = a }) (record { 0 = b }))
    by (inl e) = eq-eqb a b (same_where_equal a b e) ∙ sym e
    by (inr e) = elim (cases_eq a b) [
      | inl same ↦ absurd (both_ways (is_eq (network_order (record { 0 = a }) (record { 0 = b }))) e (equal_where_same a b same))
      | inr off ↦ ne_eqb a b off ∙ sym e
    ]

module _ (given : Given) where
  open given use {net, laws, is, cheap, up, in_ports, most_routes, most_services, foreign, network, suffice}

  abbrev Good_of : Run → ℕ → Type 0
  Good_of run = IsGood given run.histories

  abbrev Wanting : ℕ → Type 0
  Wanting = WantsOf given

  abbrev Source_of : ℕ → Way → ℕ → Place → Type 0
  Source_of = Sources given

  abbrev known_in : Run → (x : ℕ) → Wanting x → Option (Held RouteOffer)
  known_in run x w = known_by given x w (route_facts (ports_of net x) (history_of run.histories x))

  abbrev RightOf : (x : ℕ) → Wanting x → Place → RouteOffer → Type 0
  RightOf = RightFor given

  abbrev clock_in : Run → ℕ → ℕ
  clock_in run router = seconds_run (history_of run.histories router) % period

  -- the route that a router holds to the network
  abbrev pub route_of : Run → ℕ → Option RouteOffer
  route_of run router =
      find (λ o. is_eq (network_order o.network network)) (offers (routes_held (ports_of net router) most_routes (history_of run.histories router)))

  -- ---- between two ticks, after so many since all routes are real

  -- why a router needn't be right by a neighbour: that hasn't broadcast all since, or isn't right itself
  abbrev Still : ℕ → Run → Place → Type 0
  Still ticks run f = (ticks ≤ most_ticks_gone + clock_in run f.router) ⊎ (Good_of run f.router → ⊥)

  pub record AtRest (ticks : ℕ) (run : Run) : Type 0 where
    pub rests : Rests net laws is most_routes most_services up foreign ticks run
    pub aged : (x : ℕ) (w : Wanting x) (h : Held RouteOffer) (f : Place) → known_in run x w ≡ Some h → RightOf x w f h.offer
        → (h.age ≤ clock_in run f.router + 1) ⊎ Still ticks run f
    pub holds : (x : ℕ) (w : Wanting x)
        → ((h : Held RouteOffer) × (f : Place) × (known_in run x w ≡ Some h) × RightOf x w f h.offer)
        ⊎ ((port : ℕ) × (f : Place) × Source_of x w.v port f × Still ticks run f)

  -- it is so until the ticks are over after which all routes are real
  pub at_first : (ticks : ℕ) (run : Run) → ticks ≤ most_ticks_gone → Rests net laws is most_routes most_services up foreign ticks run → AtRest ticks run
  at_first ticks run few_ticks rests = record {
    rests = rests;
    aged = λ x w h f e right. inr (inl (omega (arith, few_ticks)));
    holds = λ x w.
        let (port, f, source) = a_source net is cheap up in_ports network suffice x w.v w.off w.least in
        inr (port, f, source, inl (omega (arith, few_ticks)));
  }

  -- ---- a period later all are right

  module _ (ticks : ℕ) (run : Run) (rest : AtRest ticks run) (long : most_ticks_right ≤ ticks) where
    all_good : (hops x : ℕ) (w : Wanting x) → w.v.hops ≤ hops → (h : Held RouteOffer) × (known_in run x w ≡ Some h) × (way_of h.offer ≡ w.v)
    all_good zero x w few_hops =
        let c = came net up in_ports network 14 x w.v w.off w.least in
        let h = ap (λ (y : Way). y.hops) c.by in
        absurd (omega (arith, h, few_hops))
    all_good (suc hops) x w few_hops = elim (rest.holds x w) [
      | inl held ↦ (
        held.0,
        held.2,
        right_way given x w.v w.off w.least held.1 held.0.offer held.3,
      )
      | inr (port, f, source, inl early) ↦
          let c = mod_below (seconds_run (history_of run.histories f.router)) period (omega arith) in
          absurd (omega (arith, early, c, long))
      | inr (port, f, source, inr bad) ↦
          let one_less = ap (λ (y : Way). y.hops) source.by in
          absurd (bad (λ second.
          let same = same_some net up in_ports network (within net up in_ports network 15 f.router) second.v source.way second.least source.there in
          let equal = ap (λ (y : Way). y.hops) same in
          all_good hops f.router second (omega (arith, equal, one_less, few_hops))))
    ]

    pub good_then : (x : ℕ) → Good_of run x
    good_then x w = all_good w.v.hops x w (omega arith)

  -- ---- one tick

  module _ (before : ℕ) (long : most_ticks_gone ≤ before) (run : Run) (steps : List Step) (rest : AtRest before run)
      (tick : IsCalmTick net most_routes most_services foreign run steps) where
    abbrev clock : ℕ → ℕ
    clock router = (seconds_run (history_of run.histories router) + 1) % period

    pub few_seconds : (router : ℕ) → clock router < period
    few_seconds router = mod_below (seconds_run (history_of run.histories router) + 1) period (omega arith)

    abbrev at_start : ℕ → Option RouteOffer
    at_start router = route_of run router

    abbrev last : Run
    last = run_of net most_routes most_services run steps

    abbrev queue : List Delivery
    queue = map (λ w. w.delivery) run.waiting

    abbrev pub RightedOf : (ℕ → ℕ) → Queued → Type 0
    RightedOf = Righted given before clock few_seconds at_start

    abbrev Waits_by : (ℕ → ℕ) → List History → List Delivery → ℕ → Place → Type 0 → Type 0
    Waits_by = Waits given before clock few_seconds at_start

    -- ---- each step keeps it

    same_left : (left rest_left : ℕ → ℕ) (q : Queued) → ((router : ℕ) → left router ≡ rest_left router) → RightedOf left q → RightedOf rest_left q
    same_left left rest_left q alike righted = record {
      going = (going_kept net laws is most_routes most_services up foreign (suc before)).same left rest_left q alike righted.going;
      states = λ x w.
          let state = righted.states x w in
          let a = alike x in
          record {
            aged = λ h f e right. elim (state.aged h f e right) [
              | inl young ↦ inl (omega (arith, a, young))
              | inr late ↦ inr (waits x f ((h.age + left x ≤ period + 1) ⊎ (before < most_ticks_right)) ((h.age + rest_left x ≤ period + 1) ⊎ (before < most_ticks_right))
                  (λ either. elim either [ inl fewer ↦ inl (omega (arith, a, fewer)) | inr unsteady ↦ inr unsteady ]) late)
            ];
            holds = elim state.holds [
              | inl held ↦ inl held
              | inr later ↦ inr (later.0, later.1, later.2, waits x later.1 (before < most_ticks_right) (before < most_ticks_right) (λ u. u) later.3)
            ];
          };
      calm = righted.calm;
      clocks = λ router port here. ap (λ n. (seconds_run (history_of q.histories router) + n) % period) (sym (alike router)) ∙ righted.clocks router port here;
    }
      where
        waits : (x : ℕ) (f : Place) (S T : Type 0) → (S → T) → Waits_by left q.histories q.queue x f S → Waits_by rest_left q.histories q.queue x f T
        waits x f S T step (inl early) = inl early
        waits x f S T step (inr (inl (at_zero, due, s))) = inr (inl (at_zero, sym (alike f.router) ∙ due, step s))
        waits x f S T step (inr (inr (inl bad))) = inr (inr (inl bad))
        waits x f S T step (inr (inr (inr (s, ending)))) = inr (inr (inr (step s, ending)))

    foreign_in_front : (histories : List History) (waiting : List Delivery) (d : Delivery) (left : ℕ → ℕ) → IsDelivery net d → TellsApart foreign d.bytes
        → RightedOf left (record { histories = histories; queue = waiting }) → RightedOf left (record { histories = histories; queue = d ∷ waiting })
    foreign_in_front histories waiting d left delivery tells righted = record {
      going = (going_kept net laws is most_routes most_services up foreign (suc before)).comes histories waiting d left delivery tells righted.going;
      states = λ x w.
          let state = righted.states x w in
          record {
            aged = λ h f e right. elim (state.aged h f e right) [
              | inl young ↦ inl young
              | inr late ↦ inr (waits x f ((h.age + left x ≤ period + 1) ⊎ (before < most_ticks_right)) late)
            ];
            holds = elim state.holds [
              | inl held ↦ inl held
              | inr later ↦ inr (later.0, later.1, later.2, waits x later.1 (before < most_ticks_right) later.3)
            ];
          };
      calm = λ x port f w source good. elim (righted.calm x port f w source good) [
        | inl all ↦ inl (foreign_fine given before f d tells, all)
        | inr (unsteady, ending) ↦ inr (unsteady, inl ending)
      ];
      clocks = righted.clocks;
    }
      where
        waits : (x : ℕ) (f : Place) (S : Type 0) → Waits_by left histories waiting x f S → Waits_by left histories (d ∷ waiting) x f S
        waits x f S (inl early) = inl early
        waits x f S (inr (inl due)) = inr (inl due)
        waits x f S (inr (inr (inl bad))) = inr (inr (inl bad))
        waits x f S (inr (inr (inr (s, ending)))) = inr (inr (inr (s, inl ending)))

    pub kept : IsKept net laws is most_routes most_services up foreign RightedOf
    kept = search (rules, same_left, second_rights, few_seconds, delivery_rights, foreign_in_front)

    -- ---- when it begins

    none_waits : (Q : Delivery → Type 0) (waiting : List Waiting) → waiting ≡ [] → AllByRecursion Q (map (λ w. w.delivery) waiting)
    none_waits Q waiting none = subst (λ (ws : List Waiting). AllByRecursion Q (map (λ w. w.delivery) ws)) (sym none) tt

    waits_then : (x : ℕ) (f : Place) (port : ℕ) (w : Wanting x) → Source_of x w.v port f → Still before run f
        → Waits_by (left_of net laws is most_routes most_services up foreign steps) run.histories queue x f (before < most_ticks_right)
    waits_then x f port w source (inr bad) = inr (inr (inl (unsteady, bad)))
      where
        unsteady : before < most_ticks_right
        unsteady = elim (cases_lt before most_ticks_right) [
          | inl less ↦ less
          | inr steady ↦ absurd (bad (good_then before run rest steady f.router))
        ]
    waits_then x f port w source (inl early) = elim (next_clock (seconds_run (history_of run.histories f.router))) [
      | inl next ↦ inl (omega (arith, next, early))
      | inr (at_zero, end) ↦ inr (inl (at_zero, tick.busy.each f.router (router_there net f.router f.port source.neighbour.place), omega (arith, end, early)))
    ]

    abbrev left : ℕ → ℕ
    left = left_of net laws is most_routes most_services up foreign steps

    pub begins_right : RightedOf (left_of net laws is most_routes most_services up foreign steps) (forgotten run)
    begins_right = record {
      going = begins net laws is most_routes most_services up foreign before run steps rest.rests tick.busy;
      states = λ x w. record {
        aged = λ h f e right.
            let here = tick.busy.each x (is_there net up in_ports network 15 x w.v w.least) in
            aged_by x w h f right here (next_clock (seconds_run (history_of run.histories f.router))) (rest.aged x w h f e right);
        holds = elim (rest.holds x w) [
          | inl held ↦ inl (
            held.0,
            held.1,
            held.2,
            held.3,
            λ steady.
                found_there given x w (history_of run.histories x) held.0 held.2
                (ap (λ (r : RouteOffer). r.network) held.3.same)
                (right_way given x w.v w.off w.least held.1 held.0.offer held.3),
          )
          | inr (port, f, source, still) ↦ inr (port, f, source, waits_then x f port w source still)
        ];
      };
      calm = λ x port f w source good. inl (none_waits _ run.waiting rest.rests.quiet);
      clocks = λ router port here. ap (λ n. (seconds_run (history_of run.histories router) + n) % period) (tick.busy.each router (router_there net router port
          (there_where_up net is cheap up in_ports network router port here)));
    }
      where
        aged_by : (x : ℕ) (w : Wanting x) (h : Held RouteOffer) (f : Place) → RightOf x w f h.offer → left x ≡ 1
            → (clock f.router ≡ clock_in run f.router + 1) ⊎ ((clock f.router ≡ 0) × (clock_in run f.router + 1 ≡ period))
            → (h.age ≤ clock_in run f.router + 1) ⊎ Still before run f
            → (h.age + left x ≤ clock f.router + 1) ⊎ Waits_by left run.histories queue x f ((h.age + left x ≤ period + 1) ⊎ (before < most_ticks_right))
        aged_by x w h f right here (inl next) (inl young) = inl (omega (arith, here, next, young))
        aged_by x w h f right here (inr (at_zero, end)) (inl young) =
            inr (inr (inl (
              at_zero,
              tick.busy.each f.router (router_there net f.router f.port right.source.neighbour.place),
              inl (omega (arith, here, end, young)),
            )))
        aged_by x w h f right here next (inr still) = inr (weaker (waits_then x f h.offer.port w right.source still))
          where
            weaker : Waits_by left run.histories queue x f (before < most_ticks_right)
                → Waits_by left run.histories queue x f ((h.age + left x ≤ period + 1) ⊎ (before < most_ticks_right))
            weaker (inl early) = inl early
            weaker (inr (inl (zero_now, due, s))) = inr (inl (zero_now, due, inr s))
            weaker (inr (inr (inl bad))) = inr (inr (inl bad))
            weaker (inr (inr (inr (s, ending)))) = inr (inr (inr (inr s, ending)))

    pub ended : RightedOf (left_of net laws is most_routes most_services up foreign []) (forgotten last)
    ended = grind (arith, steps_so, kept, begins_right)

    -- ---- when it is over

    clock_is : (router port : ℕ) → is_up (up router) port ≡ true → clock_in last router ≡ clock router
    clock_is router port here =
        let sum : seconds_run (history_of last.histories router) + 0 ≡ seconds_run (history_of last.histories router) = omega arith in
        ap (λ n. n % period) (sym sum) ∙ ended.clocks router port here

    none_ends : (x : ℕ) (f : Place) (waiting : List Waiting) → waiting ≡ []
        → Ends given before x f (map (λ w. w.delivery) waiting) → ⊥
    none_ends x f waiting none any = grind arith

    still_then : (S : Type 0) (x port : ℕ) (f : Place) (w : Wanting x) → Source_of x w.v port f
        → Waits_by (left_of net laws is most_routes most_services up foreign []) last.histories (map (λ w. w.delivery) last.waiting) x f S → Still (suc before) last f
    still_then S x port f w source given = grind (arith, clock_is, none_ends)

    pub tick_rests : AtRest (suc before) last
    tick_rests = record {
      rests = ends net laws is most_routes most_services up foreign (suc before) last ended.going tick.busy.quiet;
      aged = λ x w h f e right. elim ((ended.states x w).aged h f e right) [
        | inl young ↦
            let c = clock_is f.router f.port right.source.neighbour.on_there in
            inl (omega (arith, c, young))
        | inr late ↦ inr (still_then ((h.age + 0 ≤ period + 1) ⊎ (before < most_ticks_right)) x h.offer.port f w right.source late)
      ];
      holds = λ x w. elim (ended.states x w).holds [
        | inl held ↦ inl (held.0, held.1, held.2, held.3)
        | inr (port, f, source, late) ↦ inr (port, f, source, still_then (before < most_ticks_right) x port f w source late)
      ];
    }

    -- once all are right a route stays, at each moment of a tick
    pub held_now : (left_now : ℕ → ℕ) (now : Run) → RightedOf left_now (forgotten now) → (x : ℕ) (w : Wanting x) → most_ticks_right ≤ before → route_of now x ≡ route_of run x
    held_now left_now now righted x w steady = elim (righted.states x w).holds [
      | inl held ↦
          found_there given x w (history_of now.histories x) held.0 held.2
          (ap (λ (r : RouteOffer). r.network) held.3.same)
          (right_way given x w.v w.off w.least held.1 held.0.offer held.3)
          ∙ sym (held.4 steady)
      | inr (port, f, source, late) ↦
          let unsteady = waits_unsteady given before clock few_seconds at_start
          left_now now.histories (map (λ w. w.delivery) now.waiting) x f late in
          absurd (omega (arith, unsteady, steady))
    ]

    pub route_stays : (x : ℕ) (w : Wanting x) → most_ticks_right ≤ before → route_of last x ≡ route_of run x
    route_stays = held_now (left_of net laws is most_routes most_services up foreign []) last ended

  -- ---- ticks, one after the other

  pub ticks_rest_right : (so_far : ℕ) → most_ticks_gone ≤ so_far → (run : Run) (ticks : List (List Step)) → AtRest so_far run
      → CalmTicks net most_routes most_services foreign run ticks → AtRest (length ticks + so_far) (ticked net most_routes most_services run ticks)
  ticks_rest_right so_far long run [] rest are = grind arith
  ticks_rest_right so_far long run (steps ∷ ticks) rest are =
      let next = run_of net most_routes most_services run steps in
      let same : length ticks + suc so_far ≡ length (steps ∷ ticks) + so_far = omega arith in
      subst (λ (n : ℕ). AtRest n (ticked net most_routes most_services next ticks)) same
      (ticks_rest_right (suc so_far) (omega (arith, long)) next ticks (tick_rests so_far long run steps rest are.0) are.1)
