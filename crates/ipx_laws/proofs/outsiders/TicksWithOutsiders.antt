-- In ticks in which outsiders speak, after steps that leave nothing that waits, tables become as over wires.
use Rattle.std.proofs.Common.{◌≡◌, refl, sym, ap, ◌∙◌, subst, ℕ, ◌+◌, ◌<◌, ◌≤◌, false, List, [], ◌∷◌, ◌++◌, length, Option, Some, None, inl, arith, append-nil}
use Rattle.std.specs.List.{AllByRecursion}
use Rattle.ipx_wire.specs.Crossed.{is_among}
use Rattle.ipx_wire.specs.declared.network.Network.{Network}
use Rattle.ipx_router.specs.Heard.{Heard}
use Rattle.ipx_router.specs.History.{History}
use Rattle.ipx_router.specs.Numbers.{period}
use Rattle.ipx_internet.specs.BusyTick.{IsBusyTick}
use Rattle.ipx_internet.specs.Internet.{Internet, IsInternet, NodesDiffer, port_of}
use Rattle.ipx_internet.specs.Run.{Step, AreHistories, Run, forgotten, run_of}
use Rattle.ipx_internet.specs.Ticks.{ticked}
use Rattle.ipx_internet.proofs.packets.SentOnOrReply.{Layouts}
use Rattle.ipx_laws.specs.Apart.{IsRealApart, HasRoomBeside}
use Rattle.ipx_laws.specs.Gone.{most_ticks_gone}
use Rattle.ipx_laws.specs.HeardInTicks.{IsHeardOutside}
use Rattle.ipx_laws.specs.InTime.{Names, AreHeardInTime, beats_right}
use Rattle.ipx_laws.specs.Least.{Way, AreCheap, FifteenSuffice, least_route}
use Rattle.ipx_laws.specs.Meanwhile.{LeavesPorts, EachStep, AreBusyTicks, AreTicksOfHosts}
use Rattle.ipx_laws.specs.Setting.{ComesToRest}
use Rattle.ipx_laws.specs.Outsiders.{ups_with, AreStopped, IsTrueOf, IsTrueAndLeast, SaysTruly}
use Rattle.ipx_laws.specs.OutsidersInTime.{AreOutsidersHeard, AreOutsidersInTime, ticks_right_with}
use Rattle.ipx_laws.specs.Tables.{routes_of, IsRight}
use Rattle.ipx_laws.specs.Ups.{ups}
use Rattle.ipx_laws.specs.Wires.{Wires, WireStep, as_step, still, wires_of, beats_of, Along, AreBeats, EachWireStep}
use Rattle.ipx_laws.proofs.outsiders.PortsOfOutsiders.{with_within, ours_up}
use Rattle.ipx_laws.proofs.tables.Given.{Given, given_of}
use Rattle.ipx_laws.proofs.tables.TablesAreRight.{parts_of as ticks_parts}
use Rattle.ipx_laws.proofs.ticks.AfterRest.{Kept, kept_after}
use Rattle.ipx_laws.proofs.wires.HeardInLockStep.{in_time}
use Rattle.ipx_laws.proofs.wires.LockStep.{as_beat, as_beats, as_many, beat_more, beats_more, beats_say, are_beats, Follows, same_histories, steps_follow, follows_still, ticks_follow, heard_outside, same_last}
use Rattle.ipx_laws.proofs.wires.PartsInLockStep.{part_so}
use Rattle.ipx_laws.proofs.wires.PartsOfBeats.{along_prefix}
use Rattle.ipx_laws.proofs.wires.RealOnWires.{held_real}
use Rattle.ipx_laws.proofs.wires.RegularInLockStep.{quick}
use Rattle.ipx_laws.proofs.wires.RightOnWires.{right_at, right_in}

module _ (net : Internet) (laws : Layouts) (is : IsInternet net) (most_routes most_services ours : ℕ) (foreign : List Network) (run : Run) (first : List Step)
    (ticks : List (List Step)) (are : AreHistories net run.histories) (stopped : AreStopped net ours run.histories)
    (rest : ComesToRest net most_routes most_services run first) (leaves : AllByRecursion LeavesPorts first)
    (hosts : AreTicksOfHosts net most_routes most_services (run_of net most_routes most_services run first) ticks)
    (router : ℕ) (within : router < length net) (mine : router < ours) where
  abbrev begun : Run
  begun = run_of net most_routes most_services run first

  abbrev up : ℕ → List ℕ
  up = ups_with net ours run.histories

  abbrev beats : List (List WireStep)
  beats = as_beats net most_routes most_services begun (still begun.histories) ticks

  abbrev busy : AreBusyTicks net most_routes most_services begun ticks
  busy = hosts.0

  kept : Kept net laws is most_routes most_services (ups net run.histories) (forgotten begun)
  kept = kept_after net laws is most_routes most_services run first are rest leaves

  stay : (other : ℕ) → other < ours → ups net begun.histories other ≡ up other
  stay other its = kept.stay other ∙ ours_up net ours run.histories other its

  stopped_then : AreStopped net ours begun.histories
  stopped_then other inside outsider = kept.stay other ∙ stopped other inside outsider

  all_beats : AreBeats net beats
  all_beats = are_beats net most_routes most_services begun (still begun.histories) ticks busy

  leave : EachWireStep LeavesPorts beats
  leave = beats_say net most_routes most_services LeavesPorts begun (still begun.histories) ticks hosts.1

  same : length beats ≡ length ticks
  same = as_many net most_routes most_services begun (still begun.histories) ticks

  abbrev last : List History
  last = (ticked net most_routes most_services begun ticks).histories

  same_end : (beats_of net most_routes most_services 0 (still begun.histories) beats).histories ≡ last
  same_end = same_last net most_routes most_services begun rest.2 ticks busy

  pub all_real : EachStep (SaysTruly net up ours foreign (IsTrueOf net up)) ticks → most_ticks_gone ≤ length ticks
      → AllByRecursion (IsRealApart net up foreign router) (routes_of net most_routes last router)
  all_real say long =
      let many = same in
      subst (λ (hs : List History). AllByRecursion (IsRealApart net up foreign router) (routes_of net most_routes hs router)) same_end
      (held_real 0 0 net laws is most_routes most_services up foreign ours (IsTrueOf net up) (λ from e says. says) begun.histories kept.sound.are stay stopped_then [] tt
      (inl refl) beats all_beats leave
      (beats_say net most_routes most_services (SaysTruly net up ours foreign (IsTrueOf net up)) begun (still begun.histories) ticks say) router within mine
      (omega (arith, long, many)))

  module _ (differ : NodesDiffer net) (cheap : AreCheap net) (room : HasRoomBeside net most_routes foreign) (network : Network)
      (suffice : FifteenSuffice net up network) (unlisted : is_among network foreign ≡ false) where
    abbrev given : Given
    given = given_of net laws is differ cheap up (with_within net ours run.histories) most_routes most_services foreign room network suffice unlisted

    heard_in_ticks : AreHeardInTime net most_routes most_services 0 period (ups net begun.histories) (still begun.histories) beats
    heard_in_ticks =
        in_time net laws is most_routes most_services (ups net begun.histories) differ begun (still begun.histories) ticks (record {
          kept = record { sound = kept.sound; stay = λ other. refl };
          follows = follows_still net most_routes most_services begun rest.2;
          busy = busy;
          leave = hosts.1;
        })

    outsiders_in_ticks : AreOutsidersHeard net most_routes most_services up ours network begun ticks
        → AreOutsidersInTime net most_routes most_services 0 period up ours network (still begun.histories) beats
    outsiders_in_ticks heard to from before within_them after leads parts wide =
        let Says : Heard → Type 0 = Names (port_of net from).node network in
        part_so net most_routes most_services (λ now step. IsHeardOutside net to Says now.histories step)
        (λ now step. IsHeardOutside net to Says now.histories (as_step step)) (heard_outside net most_routes most_services to Says)
        begun (still begun.histories) ticks busy (follows_still net most_routes most_services begun rest.2) before within_them after parts
        (λ front inside behind whole long. heard to from front inside behind leads whole (long ∙ wide))

    long_enough : (o : Option Way) → ticks_right_with o ≤ length ticks → 0 + beats_right 0 period o ≤ length beats
    long_enough None long = let many = same in omega (arith, long, many)
    long_enough (Some way) long = let many = same in omega (arith, long, many)

    -- where these ticks have one more, at each moment of it
    module _ (front : List (List Step)) (steps more : List Step) (parts : ticks ≡ front ++ (steps ++ more) ∷ []) where
      abbrev front_beats : List (List WireStep)
      front_beats = as_beats net most_routes most_services begun (still begun.histories) front

      abbrev then_run : Run
      then_run = ticked net most_routes most_services begun front

      abbrev then_wires : Wires
      then_wires = beats_of net most_routes most_services 0 (still begun.histories) front_beats

      abbrev one_beat : List WireStep
      one_beat = as_beat net most_routes most_services then_run then_wires (steps ++ more)

      all_parts : beats ≡ front_beats ++ one_beat ∷ []
      all_parts =
          ap (λ (ts : List (List Step)). as_beats net most_routes most_services begun (still begun.histories) ts) parts
          ∙ beats_more net most_routes most_services begun (still begun.histories) front ((steps ++ more) ∷ [])

      follows_then : Follows net most_routes most_services then_run then_wires
      follows_then =
          ticks_follow net most_routes most_services begun (still begun.histories) front
          (ticks_parts net most_routes most_services (IsBusyTick net most_routes most_services) begun front ((steps ++ more) ∷ [])
          (subst (λ (ts : List (List Step)). AreBusyTicks net most_routes most_services begun ts) parts busy)).0
          (follows_still net most_routes most_services begun rest.2)

      long_then : (o : Option Way) → ticks_right_with o ≤ length front → 0 + beats_right 0 period o ≤ length front_beats
      long_then None long = let many = as_many net most_routes most_services begun (still begun.histories) front in omega (arith, long, many)
      long_then (Some way) long = let many = as_many net most_routes most_services begun (still begun.histories) front in omega (arith, long, many)

      pub table_right_then : EachStep (SaysTruly net up ours foreign (IsTrueAndLeast net up network)) ticks
          → AreOutsidersHeard net most_routes most_services up ours network begun ticks → ticks_right_with (least_route net up router network) ≤ length front
          → IsRight net most_routes (run_of net most_routes most_services then_run steps).histories up router network
      table_right_then say heard long =
          subst (λ (hs : List History). IsRight net most_routes hs up router network)
          (same_histories net most_routes most_services (run_of net most_routes most_services then_run steps)
          (wires_of net most_routes most_services 0 then_wires (as_beat net most_routes most_services then_run then_wires steps))
          (steps_follow net most_routes most_services then_run then_wires steps follows_then))
          (along_prefix net most_routes most_services 0 (λ now. IsRight net most_routes now.histories up router network) then_wires
          (as_beat net most_routes most_services then_run then_wires steps) _
          (subst (λ (ss : List WireStep). Along net most_routes most_services 0 (λ now. IsRight net most_routes now.histories up router network) then_wires ss)
          (beat_more net most_routes most_services then_run then_wires steps more)
          (right_in 0 0 given period ours begun.histories kept.sound.are stay stopped_then [] tt (inl refl) beats all_beats leave
          (beats_say net most_routes most_services (SaysTruly net up ours foreign (IsTrueAndLeast net up network)) begun (still begun.histories) ticks say)
          (quick net most_routes most_services begun (still begun.histories) ticks busy) heard_in_ticks (outsiders_in_ticks heard)
          router within mine front_beats (one_beat ∷ []) all_parts (long_then (least_route net up router network) long) one_beat [] refl)))

    pub table_right : EachStep (SaysTruly net up ours foreign (IsTrueAndLeast net up network)) ticks
        → AreOutsidersHeard net most_routes most_services up ours network begun ticks → ticks_right_with (least_route net up router network) ≤ length ticks
        → IsRight net most_routes last up router network
    table_right say heard long =
        subst (λ (hs : List History). IsRight net most_routes hs up router network) same_end
        (right_at 0 0 given period ours begun.histories kept.sound.are stay stopped_then [] tt (inl refl) beats all_beats leave
        (beats_say net most_routes most_services (SaysTruly net up ours foreign (IsTrueAndLeast net up network)) begun (still begun.histories) ticks say)
        (quick net most_routes most_services begun (still begun.histories) ticks busy) heard_in_ticks (outsiders_in_ticks heard)
        router within mine beats [] (sym (append-nil beats)) (long_enough (least_route net up router network) long))
