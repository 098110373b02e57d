-- Over wires, after the most beats there is no service but those that hosts announced in them.
use Rattle.std.proofs.Common.{◌≡◌, refl, sym, ◌∙◌, subst, ◌⊎◌, ℕ, ◌+◌, ◌<◌, ◌≤◌, List, [], ◌∷◌, ◌++◌, length, Option, Some, IfSome}
use Rattle.std.specs.List.{AllByRecursion}
use Rattle.std.proofs.lemmas.List.{append_assoc}
use Rattle.ipx_wire.specs.declared.service.Service.{Service}
use Rattle.ipx_router.specs.Facts.{services_held, offers}
use Rattle.ipx_router.specs.Heard.{Heard}
use Rattle.ipx_router.specs.History.{Event, History, Start, Stop, Second, Packet, PortDown, PortUp}
use Rattle.ipx_internet.specs.Internet.{Internet, IsInternet, ports_of}
use Rattle.ipx_internet.specs.Queue.{Delivery, history_of}
use Rattle.ipx_internet.specs.Rounds.{IsDelivery}
use Rattle.ipx_internet.specs.Run.{Happens, AreHistories}
use Rattle.ipx_internet.proofs.lists.EachElement.{all_then}
use Rattle.ipx_internet.proofs.packets.SentOnOrReply.{Layouts}
use Rattle.ipx_laws.specs.Announces.{IsAccepted, AsksApart}
use Rattle.ipx_laws.specs.Meanwhile.{message_of, SaysOnly}
use Rattle.ipx_laws.specs.WireAnnounces.{WasSaid, WasAnnounced}
use Rattle.ipx_laws.specs.Wires.{Wires, WireStep, Occurs, Lands, as_step, flying, wired, wires_of, beats_of, EachBeat, AreBeats, EachWireStep, most_beats_gone, most_beats_flying}
use Rattle.ipx_laws.proofs.ticks.FineOrSoonEnded.{IsFineService}
use Rattle.ipx_laws.proofs.ticks.HarmlessWords.{EveryNetwork, SaysServed, harmless, message_served}
use Rattle.ipx_laws.proofs.wires.BeatAfterBeat.{StepsArise, along_all}
use Rattle.ipx_laws.proofs.wires.FineOnWires.{Lasts, Flies, Arises, Good, Such}
use Rattle.ipx_laws.proofs.wires.GoneOnWires.{ends, services_fine}
use Rattle.ipx_laws.proofs.wires.PartsOfBeats.{beats_more}

module _ (net : Internet) (most_routes most_services delay : ℕ) where
  -- steps go on
  wires_on : (w : Wires) (steps : List WireStep) (step : WireStep)
      → wires_of net most_routes most_services delay w (steps ++ step ∷ []) ≡ wired net most_routes most_services delay (wires_of net most_routes most_services delay w steps) step
  wires_on w [] step = refl
  wires_on w (one ∷ steps) step = wires_on (wired net most_routes most_services delay w one) steps step

module _ (net : Internet) (laws : Layouts) (is : IsInternet net) (most_routes most_services delay slack : ℕ) (first : Wires) (beats : List (List WireStep)) where
  abbrev pub Served : Service → Type 0
  Served s = WasSaid net most_routes most_services delay first beats s

  abbrev beats_by : List (List WireStep) → Wires
  beats_by before = beats_of net most_routes most_services delay first before

  abbrev steps_by : List (List WireStep) → List WireStep → Wires
  steps_by before earlier = wires_of net most_routes most_services delay (beats_by before) earlier

  abbrev Steps : Wires → List WireStep → Type 0
  Steps =
      StepsArise net laws is most_routes most_services delay (Lasts delay slack EveryNetwork Served net laws is most_routes most_services)
      (Flies delay slack EveryNetwork Served net laws is most_routes most_services) (Arises delay slack EveryNetwork Served net laws is most_routes most_services)
      (Good delay slack EveryNetwork Served net laws is most_routes most_services)

  -- ---- what is said at each step

  module _ (before : List (List WireStep)) (beat : List WireStep) (after : List (List WireStep)) (of_beats : beats ≡ before ++ beat ∷ after) where
    message_says : (earlier : List WireStep) (router number : ℕ) (bytes : List ℕ) (later : List WireStep) → beat ≡ earlier ++ Occurs router (Packet number bytes) ∷ later
        → IsAccepted (ports_of net router) most_routes most_services (history_of (steps_by before earlier).histories router) number bytes
        → (m : Heard) → message_of bytes ≡ Some m → AsksApart m → SaysServed delay slack Served m
    message_says earlier router number bytes later of_beat accepted m heard apart =
        message_served delay slack Served m apart (λ k s says. record {
          before = before;
          beat = beat;
          after = after;
          of_beats = of_beats;
          earlier = earlier;
          router = router;
          number = number;
          bytes = bytes;
          later = later;
          of_beat = of_beat;
          accepted = accepted;
          message = m;
          heard = heard;
          which_entry = k;
          says = says;
        })

    event_arises : (earlier : List WireStep) (router : ℕ) (event : Event) (later : List WireStep) → beat ≡ earlier ++ Occurs router event ∷ later
        → SaysOnly AsksApart (Happens router event)
        → Arises delay slack EveryNetwork Served net laws is most_routes most_services (steps_by before earlier).beats (steps_by before earlier).histories router event
    event_arises earlier router Start later of_beat apart begun = tt
    event_arises earlier router Stop later of_beat apart begun = tt
    event_arises earlier router Second later of_beat apart begun = tt
    event_arises earlier router (Packet number bytes) later of_beat apart begun =
        λ accepted m e. harmless delay slack Served begun m
        (message_says earlier router number bytes later of_beat accepted m e (subst (λ (o : Option Heard). IfSome o AsksApart) e apart))
    event_arises earlier router (PortDown number) later of_beat apart begun = tt
    event_arises earlier router (PortUp number) later of_beat apart begun = tt

    moved : (earlier : List WireStep) (step : WireStep) (later : List WireStep) → beat ≡ earlier ++ step ∷ later → beat ≡ (earlier ++ step ∷ []) ++ later
    moved earlier step later of_beat = of_beat ∙ sym (append_assoc earlier (step ∷ []) later)

    steps_arise : (earlier steps : List WireStep) → beat ≡ earlier ++ steps → AllByRecursion (λ step. SaysOnly AsksApart (as_step step)) steps
        → Steps (steps_by before earlier) steps
    steps_arise earlier [] of_beat apart = tt
    steps_arise earlier (Occurs router event ∷ later) of_beat apart =
        let step = Occurs router event in (
          event_arises earlier router event later of_beat apart.0,
          subst (λ (w : Wires). Steps w later) (wires_on net most_routes most_services delay (beats_by before) earlier step)
              (steps_arise (earlier ++ step ∷ []) later (moved earlier step later of_beat) apart.1),
        )
    steps_arise earlier (Lands which ∷ later) of_beat apart =
        let step = Lands which in (
          tt,
          subst (λ (w : Wires). Steps w later) (wires_on net most_routes most_services delay (beats_by before) earlier step)
              (steps_arise (earlier ++ step ∷ []) later (moved earlier step later of_beat) apart.1),
        )

  pub beats_such : (before rest : List (List WireStep)) → beats ≡ before ++ rest → EachWireStep (SaysOnly AsksApart) rest
      → EachBeat net most_routes most_services delay (Such delay slack EveryNetwork Served net laws is most_routes most_services) (beats_by before) rest
  beats_such before [] of_beats apart = tt
  beats_such before (beat ∷ after) of_beats apart = (
    record {
      arise = steps_arise before beat after of_beats [] beat refl apart.0;
      good = along_all net most_routes most_services delay (λ now. Good delay slack EveryNetwork Served net laws is most_routes most_services now.histories)
          (λ now at number on. tt) (beats_by before) beat;
    },
    subst (λ (w : Wires). EachBeat net most_routes most_services delay (Such delay slack EveryNetwork Served net laws is most_routes most_services) w after)
        (beats_more net most_routes most_services delay first before (beat ∷ []))
        (beats_such (before ++ beat ∷ []) after (of_beats ∙ sym (append_assoc before (beat ∷ []) after)) apart.1),
  )

module _ (net : Internet) (laws : Layouts) (is : IsInternet net) (most_routes most_services delay slack : ℕ) (histories : List History)
    (are : AreHistories net histories) (deliveries : List Delivery) (fly : AllByRecursion (IsDelivery net) deliveries)
    (over : (deliveries ≡ []) ⊎ (most_beats_flying delay ≤ slack)) (beats : List (List WireStep)) (all : AreBeats net beats)
    (long : slack + most_beats_gone delay ≤ length beats) (router : ℕ) (within : router < length net) where
  abbrev IsServed : Service → Type 0
  IsServed s = Served net laws is most_routes most_services delay slack (flying histories deliveries) beats s

  pub announced : EachWireStep (SaysOnly AsksApart) beats
      → AllByRecursion (λ s. WasAnnounced net most_routes most_services delay (flying histories deliveries) beats s.service)
      (offers (services_held (ports_of net router) most_services
      (history_of (beats_of net most_routes most_services delay (flying histories deliveries) beats).histories router)))
  announced apart =
      all_then (λ s. IsFineService EveryNetwork IsServed s.service)
      (λ s. WasAnnounced net most_routes most_services delay (flying histories deliveries) beats s.service)
      (λ s fine. record { hops = fine.0; no_more = fine.1; said = fine.2 })
      (offers (services_held (ports_of net router) most_services
      (history_of (beats_of net most_routes most_services delay (flying histories deliveries) beats).histories router)))
      (services_fine net laws is most_routes most_services delay slack histories are deliveries fly over beats all long router within EveryNetwork IsServed
      (ends net laws is most_routes most_services delay slack histories are deliveries fly over beats all long router within EveryNetwork IsServed
      (beats_such net laws is most_routes most_services delay slack (flying histories deliveries) beats [] beats refl apart)))
