-- Ticks of hosts after steps that end with nothing that waits, as beats: these are as the laws of services over wires ask, and what is so of routers
-- when they end, or in the last of them, is so in the ticks.
use Rattle.std.proofs.Common.{◌≡◌, sym, ap, ◌∙◌, subst, ℕ, List, [], ◌∷◌, ◌++◌, length}
use Rattle.std.proofs.Math.Path.{fun_ext}
use Rattle.std.specs.List.{AllByRecursion}
use Rattle.ipx_router.specs.Numbers.{period}
use Rattle.ipx_internet.specs.BusyTick.{IsBusyTick}
use Rattle.ipx_internet.specs.Internet.{Internet, IsInternet, NodesDiffer}
use Rattle.ipx_internet.specs.Run.{Step, AreHistories, Run, forgotten, run_of}
use Rattle.ipx_internet.specs.Ticks.{ticked}
use Rattle.ipx_internet.proofs.packets.SentOnOrReply.{Layouts}
use Rattle.ipx_laws.specs.InTime.{AreQuick}
use Rattle.ipx_laws.specs.Meanwhile.{LeavesPorts, EachStep, AreTicksOfHosts}
use Rattle.ipx_laws.specs.Regular.{AreRegular}
use Rattle.ipx_laws.specs.Servers.{Server, SaysNoFalse}
use Rattle.ipx_laws.specs.Setting.{ComesToRest}
use Rattle.ipx_laws.specs.Ups.{ups}
use Rattle.ipx_laws.specs.WireRegular.{AreRoutersInTime, AreRegularBeats}
use Rattle.ipx_laws.specs.Wires.{Wires, WireStep, still, wires_of, beats_of, AreBeats, EachWireStep}
use Rattle.ipx_laws.proofs.tables.TablesAreRight.{parts_of}
use Rattle.ipx_laws.proofs.ticks.AfterRest.{Kept, kept_after}
use Rattle.ipx_laws.proofs.wires.LockStep.{as_beat, as_beats, beat_more, beats_more, as_many, beats_say, are_beats, Follows, follows_still, ticks_follow, steps_follow, same_histories}
use Rattle.ipx_laws.proofs.wires.PartsInLockStep.{Goes}
use Rattle.ipx_laws.proofs.wires.RegularInLockStep.{quick, regular, routers_in_time}

module _ (net : Internet) (laws : Layouts) (is : IsInternet net) (most_routes most_services : ℕ) (run : Run) (first : List Step) (are : AreHistories net run.histories)
    (rest : ComesToRest net most_routes most_services run first) (leaves : AllByRecursion LeavesPorts first) where
  abbrev next : Run
  next = run_of net most_routes most_services run first

  abbrev now : Wires
  now = still next.histories

  kept : Kept net laws is most_routes most_services (ups net run.histories) (forgotten next)
  kept = kept_after net laws is most_routes most_services run first are rest leaves

  same_ups : ups net next.histories ≡ ups net run.histories
  same_ups = fun_ext kept.stay

  follows : Follows net most_routes most_services next now
  follows = follows_still net most_routes most_services next rest.2

  -- ---- what the laws over wires ask for

  pub record Suits (ticks : List (List Step)) (beats : List (List WireStep)) : Type 0 where
    pub begun : AreHistories net next.histories
    pub same_ports : ups net next.histories ≡ ups net run.histories
    pub all : AreBeats net beats
    pub leave : EachWireStep LeavesPorts beats
    pub quick : AreQuick net period beats
    pub say : (server : Server) → EachStep (SaysNoFalse net server) ticks → EachWireStep (SaysNoFalse net server) beats
    pub regular : (server : Server) (names : List (ℕ × List ℕ)) → AreRegular net most_routes most_services server names (ups net run.histories) next ticks
        → AreRegularBeats net most_routes most_services 0 server period names (ups net next.histories) now beats
    pub routers : (server : Server) → NodesDiffer net → AreRoutersInTime net most_routes most_services 0 server period (ups net next.histories) now beats

  suits : (ticks : List (List Step)) → AreTicksOfHosts net most_routes most_services next ticks → Suits ticks (as_beats net most_routes most_services next now ticks)
  suits ticks (busy, leave) = record {
    begun = kept.sound.are;
    same_ports = same_ups;
    all = are_beats net most_routes most_services next now ticks busy;
    leave = beats_say net most_routes most_services LeavesPorts next now ticks leave;
    quick = quick net most_routes most_services next now ticks busy;
    say = λ server says. beats_say net most_routes most_services (SaysNoFalse net server) next now ticks says;
    regular = λ server names given.
        subst (λ (up : ℕ → List ℕ). AreRegularBeats net most_routes most_services 0 server period names up now (as_beats net most_routes most_services next now ticks))
        (sym same_ups) (regular net laws is most_routes most_services (ups net run.histories) server next now ticks goes names given);
    routers = λ server differ.
        subst (λ (up : ℕ → List ℕ). AreRoutersInTime net most_routes most_services 0 server period up now (as_beats net most_routes most_services next now ticks))
        (sym same_ups) (routers_in_time net laws is most_routes most_services (ups net run.histories) server next now ticks goes differ);
  }
    where
      goes : Goes net laws is most_routes most_services (ups net run.histories) next now ticks
      goes = record { kept = kept; follows = follows; busy = busy; leave = leave }

  -- ---- when they end

  pub record AtEnd (ticks : List (List Step)) : Type 0 where
    pub beats : List (List WireStep)
    pub as_long : length beats ≡ length ticks
    pub suits : Suits ticks beats
    pub same : (beats_of net most_routes most_services 0 now beats).histories ≡ (ticked net most_routes most_services next ticks).histories

  pub at_end : (ticks : List (List Step)) → AreTicksOfHosts net most_routes most_services next ticks → AtEnd ticks
  at_end ticks hosts =
      let beats = as_beats net most_routes most_services next now ticks in
      record {
        beats = beats;
        as_long = as_many net most_routes most_services next now ticks;
        suits = suits ticks hosts;
        same =
            same_histories net most_routes most_services (ticked net most_routes most_services next ticks) (beats_of net most_routes most_services 0 now beats)
            (ticks_follow net most_routes most_services next now ticks hosts.0 follows);
      }

  -- ---- and in the last of them

  pub record Within (ticks : List (List Step)) (steps more : List Step) : Type 0 where
    pub beats : List (List WireStep)
    pub as_long : length beats ≡ length ticks
    pub in_beat : List WireStep
    pub more_in_beat : List WireStep
    pub suits : Suits (ticks ++ (steps ++ more) ∷ []) (beats ++ (in_beat ++ more_in_beat) ∷ [])
    pub same : (wires_of net most_routes most_services 0 (beats_of net most_routes most_services 0 now beats) in_beat).histories
        ≡ (run_of net most_routes most_services (ticked net most_routes most_services next ticks) steps).histories

  pub within : (ticks : List (List Step)) (steps more : List Step) → AreTicksOfHosts net most_routes most_services next (ticks ++ (steps ++ more) ∷ [])
      → Within ticks steps more
  within ticks steps more hosts =
      let beats = as_beats net most_routes most_services next now ticks in
      let then_run = ticked net most_routes most_services next ticks in
      let then_wires = beats_of net most_routes most_services 0 now beats in
      let in_beat = as_beat net most_routes most_services then_run then_wires steps in
      let after_run = run_of net most_routes most_services then_run steps in
      let after_wires = wires_of net most_routes most_services 0 then_wires in_beat in
      let busy = parts_of net most_routes most_services (IsBusyTick net most_routes most_services) next ticks ((steps ++ more) ∷ []) hosts.0 in
      record {
        beats = beats;
        as_long = as_many net most_routes most_services next now ticks;
        in_beat = in_beat;
        more_in_beat = as_beat net most_routes most_services after_run after_wires more;
        suits =
            subst (Suits (ticks ++ (steps ++ more) ∷ []))
            (beats_more net most_routes most_services next now ticks ((steps ++ more) ∷ [])
            ∙ ap (λ (beat : List WireStep). beats ++ beat ∷ []) (beat_more net most_routes most_services then_run then_wires steps more))
            (suits (ticks ++ (steps ++ more) ∷ []) hosts);
        same =
            same_histories net most_routes most_services after_run after_wires
            (steps_follow net most_routes most_services then_run then_wires steps (ticks_follow net most_routes most_services next now ticks busy.0 follows));
      }
