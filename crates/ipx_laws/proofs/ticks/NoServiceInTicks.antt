-- Where no router has a service, and nothing but ticks happens, none has one after any step.
use Rattle.std.proofs.Common.{◌≡◌, ◌≢◌, refl, sym, subst, ℕ, suc, ◌+◌, ◌<◌, ◌≤◌, List, [], ◌∷◌, length, map, inl, arith}
use Rattle.std.specs.List.{AllByRecursion}
use Rattle.ipx_table.specs.declared.held.Held.{Held}
use Rattle.ipx_wire.specs.declared.service.Service.{Service}
use Rattle.ipx_router.specs.Facts.{service_facts, services_held, offers}
use Rattle.ipx_router.specs.Heard.{Heard}
use Rattle.ipx_router.specs.History.{Event, History}
use Rattle.ipx_router.specs.Services.{service_reading, service_order}
use Rattle.ipx_router.specs.declared.service_offer.ServiceOffer.{ServiceOffer}
use Rattle.ipx_router.proofs.bounds.PacketsOfEachEvent.{service_total}
use Rattle.ipx_internet.specs.Internet.{Internet, IsInternet, ports_of}
use Rattle.ipx_internet.specs.Queue.{history_of}
use Rattle.ipx_internet.specs.Run.{Step, Run, AreHistories, begun, stepped, run_of}
use Rattle.ipx_internet.specs.Ticks.{AreTicks, ticked}
use Rattle.ipx_internet.proofs.lists.EachElement.{all_of}
use Rattle.ipx_internet.proofs.packets.SentOnOrReply.{Layouts}
use Rattle.ipx_laws.specs.Meanwhile.{SaysOnly, AreBusyTicks}
use Rattle.ipx_laws.specs.Upkeep.{ServicesStay, steps_of}
use Rattle.ipx_laws.specs.Gone.{most_ticks_gone}
use Rattle.ipx_laws.specs.Wires.{Flight, Wires, WireStep, still, beaten, wires_of, beats_of, AreBeats, EachBeat}
use Rattle.ipx_laws.proofs.records.RecordsGrowOld.{at_last, where_none}
use Rattle.ipx_laws.proofs.ticks.AfterEachStep.{AfterEach, each-append}
use Rattle.ipx_laws.proofs.ticks.FineOrSoonEnded.{Abides, IsFineService, abides_first}
use Rattle.ipx_laws.proofs.ticks.HarmlessWords.{EveryNetwork}
use Rattle.ipx_laws.proofs.ticks.TickAfterTick.{ticks_of_hosts, all_say_nothing}
use Rattle.ipx_laws.proofs.wires.BeatAfterBeat.{Going, Keeps, beat_goes, beats_go, starts, steps_each, each_all}
use Rattle.ipx_laws.proofs.wires.FineOnWires.{Lasts, Flies, Arises, Good, Such, keeps, such_beats}
use Rattle.ipx_laws.proofs.wires.GoneOnWires.{AnyWires}
use Rattle.ipx_laws.proofs.wires.LockStep.{Follows, as_beat, as_beats, as_many, are_beats, beats_say, after_each, tick_follows, ticks_follow, follows_still, quiet_follows, same_histories}

-- where nobody announces any service, none is left
pub none_left : (services : List ServiceOffer) → ((key : ℕ × List ℕ) → AllByRecursion (λ s. (s.service.kind, s.service.name) ≢ key) services) → services ≡ []
none_left [] none = refl
none_left (s ∷ services) none = absurd ((none (s.service.kind, s.service.name)).0 refl)

pub no_records : {O : Type 0} (records : List (Held O)) → offers records ≡ [] → records ≡ []
no_records [] e = refl
no_records (h ∷ records) e = grind arith

-- no service is announced, and nothing is said from outside
abbrev Served : Service → Type 0
Served s = ⊥

abbrev Nothing : Heard → Type 0
Nothing m = ⊥

none_of : {X : Type 0} (P : X → Type 0) → ((x : X) → P x → ⊥) → (xs : List X) → AllByRecursion P xs → xs ≡ []
none_of P never [] all = refl
none_of P never (x ∷ xs) all = absurd (never x all.0)

module _ (net : Internet) (laws : Layouts) (is : IsInternet net) (most_routes most_services : ℕ) where
  abbrev pub NoService : List History → Type 0
  NoService histories = (router : ℕ) → router < length net → services_held (ports_of net router) most_services (history_of histories router) ≡ []

  abbrev Last : ℕ → ℕ → History → Type 0
  Last = Lasts 0 0 EveryNetwork Served net laws is most_routes most_services

  abbrev Fly : Flight → Type 0
  Fly = Flies 0 0 EveryNetwork Served net laws is most_routes most_services

  abbrev Arise : ℕ → List History → ℕ → Event → Type 0
  Arise = Arises 0 0 EveryNetwork Served net laws is most_routes most_services

  abbrev Fine : List History → Type 0
  Fine = Good 0 0 EveryNetwork Served net laws is most_routes most_services

  abbrev Goes : ℕ → (ℕ → ℕ) → Wires → Type 0
  Goes = Going net laws is most_routes most_services 0 Last Fly Arise Fine

  kept : Keeps net laws is most_routes most_services 0 Last Fly Arise Fine
  kept = keeps 0 0 EveryNetwork Served net laws is most_routes most_services

  -- after so many ticks: as over wires, where the same happened
  pub record Rest (so_far : ℕ) (run : Run) : Type 0 where
    pub w : Wires
    pub follows : Follows net most_routes most_services run w
    pub goes : Goes so_far (λ router. 0) w

  none_held : (router had : ℕ) → most_ticks_gone ≤ had → (history : History) → Abides 0 0 EveryNetwork Served (ports_of net router) most_routes most_services had history
      → services_held (ports_of net router) most_services history ≡ []
  none_held router had long history abides =
      let ports = ports_of net router in
      no_records (services_held ports most_services history)
      (none_of (λ s. IsFineService EveryNetwork Served s.service) (λ s fine. fine.2) (offers (services_held ports most_services history))
      (at_last service_reading service_order service_total most_services (map (λ p. p.service_share) ports) (λ s. s.service.hops) (λ s. refl) 0 0
      (λ s. IsFineService EveryNetwork Served s.service) had (service_facts ports history) long abides.services))

  none_now : (so_far : ℕ) → most_ticks_gone ≤ so_far → (seconds : ℕ → ℕ) (now : Wires) → Goes so_far seconds now → NoService now.histories
  none_now so_far long seconds now goes router inside =
      none_held router so_far long (history_of now.histories router) (goes.routers router so_far inside (omega arith) (omega arith))

  none_then : (so_far : ℕ) → most_ticks_gone ≤ so_far → (run : Run) → Rest so_far run → NoService run.histories
  none_then so_far long run rest =
      subst NoService (same_histories net most_routes most_services run rest.w rest.follows) (none_now so_far long (λ router. 0) rest.w rest.goes)

  -- as services stay: none at first, none then
  pub none_stays : (old : List History) → NoService old → (run : Run) (steps : List Step)
      → AfterEach net most_routes most_services (λ now. NoService now.histories) run steps → ServicesStay net most_routes most_services old run steps
  none_stays old none run [] each = tt
  none_stays old none run (step ∷ steps) each = grind (arith, none_stays old none (stepped net most_routes most_services run step) steps each.1)

  -- ---- ticks in which nothing else happens

  module _ (run : Run) (w : Wires) (ticks : List (List Step)) (passes : AreTicks net most_routes most_services run ticks) where
    abbrev beats : List (List WireStep)
    beats = as_beats net most_routes most_services run w ticks

    busy : AreBusyTicks net most_routes most_services run ticks
    busy = (ticks_of_hosts net most_routes most_services run ticks passes).0

    all_beats : AreBeats net beats
    all_beats = are_beats net most_routes most_services run w ticks busy

    such : EachBeat net most_routes most_services 0 (Such 0 0 EveryNetwork Served net laws is most_routes most_services) w beats
    such =
        such_beats 0 0 EveryNetwork Served net laws is most_routes most_services Nothing (λ begun m none. absurd none) AnyWires (λ now any at number on. tt) w beats
        (each_all net most_routes most_services 0 AnyWires (λ now. tt) w beats)
        (beats_say net most_routes most_services (SaysOnly Nothing) run w ticks (all_say_nothing net most_routes most_services Nothing run ticks passes))

  none_in : (so_far : ℕ) → most_ticks_gone ≤ so_far → (run : Run) (w : Wires) (ticks : List (List Step)) → Follows net most_routes most_services run w
      → Goes so_far (λ router. 0) w → AreTicks net most_routes most_services run ticks
      → AfterEach net most_routes most_services (λ now. NoService now.histories) run (steps_of ticks)
  none_in so_far long run w [] follows goes passes = tt
  none_in so_far long run w (steps ∷ ticks) follows goes passes =
      let next = run_of net most_routes most_services run steps in
      let beat = as_beat net most_routes most_services run w steps in
      let is_beat = (all_beats run w (steps ∷ ticks) passes).0 in
      let is_such = (such run w (steps ∷ ticks) passes).0 in
      each-append net most_routes most_services (λ now. NoService now.histories) run steps (steps_of ticks)
      (after_each net most_routes most_services NoService run w steps follows
      (steps_each net laws is most_routes most_services 0 Last Fly Arise Fine kept (λ now. NoService now.histories) so_far (none_now so_far long) beat w (λ router. 0)
      is_beat.happens is_such goes))
      (none_in (suc so_far) (omega (arith, long)) next (beaten (wires_of net most_routes most_services 0 w beat)) ticks
      (tick_follows net most_routes most_services run w steps (busy run w (steps ∷ ticks) passes).0 follows)
      (beat_goes net laws is most_routes most_services 0 Last Fly Arise Fine kept so_far beat w is_beat is_such goes) passes.1)

  pub stays_none : (so_far : ℕ) → most_ticks_gone ≤ so_far → (run : Run) (ticks : List (List Step)) → Rest so_far run → AreTicks net most_routes most_services run ticks
      → ServicesStay net most_routes most_services run.histories run (steps_of ticks)
  stays_none so_far long run ticks rest are =
      none_stays run.histories (none_then so_far long run rest) run (steps_of ticks) (none_in so_far long run rest.w ticks rest.follows rest.goes are)

  rests_on : (so_far : ℕ) (run : Run) (ticks : List (List Step)) → Rest so_far run → AreTicks net most_routes most_services run ticks
      → Rest (length ticks + so_far) (ticked net most_routes most_services run ticks)
  rests_on so_far run ticks rest passes = record {
    w = beats_of net most_routes most_services 0 rest.w (beats run rest.w ticks passes);
    follows = ticks_follow net most_routes most_services run rest.w ticks (busy run rest.w ticks passes) rest.follows;
    goes =
        subst (λ (n : ℕ). Goes (n + so_far) (λ router. 0) (beats_of net most_routes most_services 0 rest.w (beats run rest.w ticks passes)))
        (as_many net most_routes most_services run rest.w ticks)
        (beats_go net laws is most_routes most_services 0 Last Fly Arise Fine kept so_far (beats run rest.w ticks passes) rest.w (all_beats run rest.w ticks passes)
        (such run rest.w ticks passes) rest.goes);
  }

  module _ (histories : List History) (are : AreHistories net histories) where
    -- whatever is held at first
    pub from_any : (ticks : List (List Step)) → AreTicks net most_routes most_services (begun histories) ticks
        → Rest (length ticks + 0) (ticked net most_routes most_services (begun histories) ticks)
    from_any ticks passes =
        rests_on 0 (begun histories) ticks (record {
          w = still histories;
          follows = follows_still net most_routes most_services (begun histories) refl;
          goes = starts net laws is most_routes most_services 0 Last Fly Arise Fine kept histories [] are
              (λ router inside. abides_first 0 0 EveryNetwork Served (ports_of net router) most_routes most_services (history_of histories router)) tt;
        }) passes

    -- where no router has a service at first, it is as after the ticks after which none has
    module _ (none : NoService histories) where
      abides : (router had : ℕ) → router < length net → Last router had (history_of histories router)
      abides router had inside = record {
        routes = all_of _ (λ h. inl tt) _;
        services =
            where_none service_reading service_order service_total most_services (map (λ p. p.service_share) (ports_of net router)) (λ s. s.service.hops) (λ s. refl) 0 0
            (λ s. IsFineService EveryNetwork Served s.service) had (service_facts (ports_of net router) (history_of histories router))
            (subst (λ (hs : List (Held ServiceOffer)). AllByRecursion (λ o. ⊥) (offers hs)) (sym (none router inside)) tt);
      }

      pub at_once : (ticks : List (List Step)) → AreTicks net most_routes most_services (begun histories) ticks
          → Rest (length ticks + most_ticks_gone) (ticked net most_routes most_services (begun histories) ticks)
      at_once ticks passes =
          let w : Wires = record { histories = histories; beats = most_ticks_gone; flights = [] } in
          rests_on most_ticks_gone (begun histories) ticks (record {
            w = w;
            follows = quiet_follows net most_routes most_services (begun histories) w [] refl refl refl;
            goes = record { count = refl; are = are; routers = λ router had inside most few. abides router had inside; flights = tt };
          }) passes
