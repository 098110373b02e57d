-- After steps that end with nothing that waits, whatever waited before: histories are as they should be, and ports as they were.
use Rattle.std.proofs.Common.{◌≡◌, refl, ℕ, ◌<◌, false, List, [], ◌∷◌, length, arith, rules}
use Rattle.std.specs.List.{AllByRecursion}
use Rattle.ipx_wire.specs.declared.network.Network.{Network}
use Rattle.ipx_router.specs.History.{Event, History, is_start, is_stop, takes_down, brings_up}
use Rattle.ipx_router.proofs.histories.OneEventMore.{ports_stay}
use Rattle.ipx_internet.specs.Internet.{Internet, IsInternet}
use Rattle.ipx_internet.specs.Queue.{Delivery, Queued, with_event, settled_one}
use Rattle.ipx_internet.specs.Run.{Step, Happens, IsStep, AreHistories, Run, forgotten, stepped, run_of}
use Rattle.ipx_internet.proofs.deliveries.QueueOfARun.{deliveries}
use Rattle.ipx_internet.proofs.packets.SentOnOrReply.{Layouts}
use Rattle.ipx_internet.proofs.ticks.TickCanBeHad.{Sound, step_sound, steps_sound, sound_run}
use Rattle.ipx_internet.proofs.trees.RunIsALog.{router_there}
use Rattle.ipx_laws.specs.Apart.{AreTicksBesideAfter}
use Rattle.ipx_laws.specs.Meanwhile.{LeavesPorts, AreCalmTicksAfter}
use Rattle.ipx_laws.specs.Setting.{ComesToRest}
use Rattle.ipx_laws.specs.Ups.{ups}
use Rattle.ipx_laws.proofs.ticks.EventOfOneRouter.{each_so}
use Rattle.ipx_laws.proofs.ticks.TickAfterTick.{Rests, quiet_rests, calm_beside}

-- calm ticks are such for any list
pub beside_after : (net : Internet) (most_routes most_services : ℕ) (foreign : List Network) (run : Run) (first : List Step) (ticks : List (List Step))
    → AreCalmTicksAfter net most_routes most_services run first ticks → AreTicksBesideAfter net most_routes most_services foreign run first ticks
beside_after net most_routes most_services foreign run first ticks (rest, leaves, calm) =
    (rest, leaves, calm_beside net most_routes most_services foreign (run_of net most_routes most_services run first) ticks calm)

module _ (net : Internet) (laws : Layouts) (is : IsInternet net) (most_routes most_services : ℕ) where
  -- ---- ports

  module _ (up : ℕ → List ℕ) where
    abbrev pub Stay : List History → Type 0
    Stay histories = (router : ℕ) → ups net histories router ≡ up router

    -- an event that changes no port
    stay_so : (histories : List History) (router : ℕ) (event : Event) → router < length histories → is_start event ≡ false → is_stop event ≡ false
        → ((port : ℕ) → takes_down port event ≡ false) → ((port : ℕ) → brings_up port event ≡ false) → Stay histories → Stay (with_event histories router event)
    stay_so histories router event listed no_start on untaken unbrought stay other = search (rules, each_so, ports_stay)

    pub record Kept (q : Queued) : Type 0 where
      pub sound : Sound net laws is most_routes most_services q
      pub stay : Stay q.histories

    happens_stay : (histories : List History) (router : ℕ) (event : Event) → AreHistories net histories → router < length net → LeavesPorts (Happens router event)
        → Stay histories → Stay (with_event histories router event)
    happens_stay histories router event are within leaves stay = grind (arith, stay_so)

    settles_stay : (histories : List History) (queue : List Delivery) → Kept (record { histories = histories; queue = queue })
        → Stay (settled_one net most_routes most_services (record { histories = histories; queue = queue })).histories
    settles_stay histories queue kept = grind (arith, router_there, stay_so)

    step_stays : (run : Run) (step : Step) → IsStep net step → LeavesPorts step → Kept (forgotten run) → Stay (stepped net most_routes most_services run step).histories
    step_stays run step is_step leaves kept = grind (arith, happens_stay, deliveries, settles_stay)

    pub steps_keep : (run : Run) (steps : List Step) → AllByRecursion (IsStep net) steps → AllByRecursion LeavesPorts steps → Kept (forgotten run)
        → Kept (forgotten (run_of net most_routes most_services run steps))
    steps_keep run [] all leave kept = kept
    steps_keep run (step ∷ steps) all leave kept =
        steps_keep (stepped net most_routes most_services run step) steps all.1 leave.1 (record {
          sound = step_sound net laws is most_routes most_services run step all.0 kept.sound;
          stay = step_stays run step all.0 leave.0 kept;
        })

  module _ (run : Run) (first : List Step) (are : AreHistories net run.histories) (rest : ComesToRest net most_routes most_services run first) where
    abbrev next : Run
    next = run_of net most_routes most_services run first

    begins : Sound net laws is most_routes most_services (forgotten run)
    begins = sound_run net laws is most_routes most_services run are rest.0

    pub are_after : AreHistories net next.histories
    are_after = (steps_sound net laws is most_routes most_services run first rest.1 begins).are

    pub kept_after : AllByRecursion LeavesPorts first → Kept (ups net run.histories) (forgotten next)
    kept_after leaves = steps_keep (ups net run.histories) run first rest.1 leaves (record { sound = begins; stay = λ router. refl })

    pub begins_after : (foreign : List Network) → AllByRecursion LeavesPorts first
        → Rests net laws is most_routes most_services (ups net run.histories) foreign 0 next
    begins_after foreign leaves =
        let kept = kept_after leaves in
        quiet_rests net laws is most_routes most_services (ups net run.histories) foreign next kept.sound.are kept.stay rest.2
