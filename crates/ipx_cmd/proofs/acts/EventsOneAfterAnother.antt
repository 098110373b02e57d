-- Events that happen to the routers of an internet, one after the other.
use Rattle.std.proofs.Common.{◌≡◌, ℕ, suc, ◌+◌, ◌≤◌, List, [], ◌∷◌, ◌++◌, length, replicate, refl, sym, ap, subst, arith, append-nil, Result, OnOk, rules}
use Rattle.std.proofs.lemmas.Grind.{flat_map-append, common_steps}
use Rattle.std.proofs.lemmas.List.{length-map, map-append, replicate_more}
use Rattle.std.specs.List.{flat_map}
use Rattle.ipx_router.specs.History.{Event, Second}
use Rattle.ipx_router.specs.Port.{numbers}
use Rattle.ipx_internet.specs.Internet.{Internet}
use Rattle.ipx_internet.specs.Moment.{Moment, StandsFor, net_at}
use Rattle.ipx_internet.specs.Queue.{Queued, queued}
use Rattle.ipx_cmd.specs.EventText.{most_routes, most_services}
use Rattle.ipx_cmd.specs.InternetMachine.{every_second, happens}

pub happens_append : (net : Internet) (q : Queued) (before after : List (ℕ × Event)) → happens net q (before ++ after) ≡ happens net (happens net q before) after
happens_append net q [] after = refl
happens_append net q (event ∷ before) after = happens_append net (queued net most_routes most_services q event.0 event.1) before after

-- those events happened
pub record HappenedTo (old now : Moment) (events : List (ℕ × Event)) : Type 0 where
  pub net : net_at now ≡ net_at old
  pub stands : (q : Queued) → StandsFor most_routes most_services old q → StandsFor most_routes most_services now (happens (net_at old) q events)

pub nothing_happened : (m : Moment) → HappenedTo m m []
nothing_happened m = record { net = refl; stands = λ q stands. stands }

pub happened_then : (old mid now : Moment) (before after : List (ℕ × Event)) → HappenedTo old mid before → HappenedTo mid now after → HappenedTo old now (before ++ after)
happened_then old mid now before after one other = grind (arith, happens_append)

-- ---- a second of each router

-- the numbers up to the next one
pub numbers_more : (k : ℕ) → numbers (k + 1) ≡ numbers k ++ k ∷ []
numbers_more k = let next : k + 1 ≡ suc k = omega arith in ap numbers next

abbrev at_second : ℕ → ℕ × Event
at_second router = (router, Second)

abbrev pub seconds_to : ℕ → List (ℕ × Event)
seconds_to count = every_second count

seconds_more : (router : ℕ) → seconds_to (router + 1) ≡ seconds_to router ++ (router, Second) ∷ []
seconds_more router = grind (arith, numbers_more, map-append)

pub second_more : (old mid now : Moment) (router : ℕ) → HappenedTo old mid (seconds_to router) → net_at now ≡ net_at mid
    → ((q : Queued) → StandsFor most_routes most_services mid q → StandsFor most_routes most_services now (queued (net_at mid) most_routes most_services q router Second))
    → HappenedTo old now (seconds_to (router + 1))
second_more old mid now router so net stands = search (rules, seconds_more, happened_then)

-- ---- several seconds of all routers

abbrev pub rounds : ℕ → ℕ → List (ℕ × Event)
rounds routers count = flat_map (λ second. second) (replicate count (every_second routers))

rounds_more : (routers count : ℕ) → rounds routers (count + 1) ≡ rounds routers count ++ every_second routers
rounds_more routers count = grind (arith, common_steps, replicate_more, flat_map-append, append-nil)

pub round_more : (old mid now : Moment) (count : ℕ) → HappenedTo old mid (rounds (length (net_at old)) count) → net_at now ≡ net_at mid
    → ((q : Queued) → StandsFor most_routes most_services mid q → StandsFor most_routes most_services now (happens (net_at mid) q (every_second (length (net_at mid)))))
    → HappenedTo old now (rounds (length (net_at old)) (count + 1))
round_more old mid now count so net stands =
    subst (HappenedTo old now) (sym (rounds_more (length (net_at old)) count))
    (happened_then old mid now (rounds (length (net_at old)) count) (every_second (length (net_at old))) so (record {
      net = net;
      stands = λ q was. subst (λ (n : Internet). StandsFor most_routes most_services now (happens (net_at mid) q (every_second (length n)))) so.net (stands q was);
    }))

-- all of them
pub all_seconds : (old now : Moment) (router : ℕ) → router ≤ length old.routers → length old.routers ≤ router → HappenedTo old now (seconds_to router)
    → HappenedTo old now (every_second (length (net_at old)))
all_seconds old now router few many so = grind (arith, length-map)

pub all_rounds : (old now : Moment) (count k : ℕ) → k ≤ count → count ≤ k → HappenedTo old now (rounds (length (net_at old)) k) → HappenedTo old now (rounds (length (net_at old)) count)
all_rounds old now count k few many so = grind arith

-- what holds anyway holds where an answer is good
pub where_ok : {T E X : Type 0} (r : Result T E) → X → OnOk r X
where_ok r x = grind arith
