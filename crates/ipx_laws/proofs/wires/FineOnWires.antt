-- Over wires each router's records are fine, or older by as many seconds as it had and delays that its packets may have had; and what flies was
-- said by a router when it was sent, or does no harm whenever it lands, or flew at first and is over soon.
use Rattle.std.proofs.Common.{◌≡◌, ◌≢◌, refl, sym, ap, ◌∙◌, subst, ◌⊎◌, ℕ, suc, ◌+◌, ◌<◌, ◌≤◌, true, List, [], ◌∷◌, ◌++◌, length, Option, Some, IfSome, inl, inr, arith, get_or-set_same}
use Rattle.std.specs.List.{AllByRecursion}
use Rattle.ipx_wire.specs.Piece.{IsBytes}
use Rattle.ipx_wire.specs.declared.network.Network.{Network}
use Rattle.ipx_wire.specs.declared.rip.Operation.{Operation}
use Rattle.ipx_wire.specs.declared.rip.Operation.TheVariants.{Request, Response}
use Rattle.ipx_wire.specs.declared.sap.Sap.TheVariants.{Query, Response as SapResponse}
use Rattle.ipx_wire.specs.declared.service.Service.{Service}
use Rattle.ipx_router.specs.Heard.{Heard, HeardRip, HeardSap}
use Rattle.ipx_router.specs.History.{Event, History, Start, Stop, Second, Packet, PortDown, PortUp, IsOnPort, IsOfBytes, ports_up}
use Rattle.ipx_router.specs.Port.{Port, port_at, is_up}
use Rattle.ipx_router.specs.Relays.{Sent}
use Rattle.ipx_router.proofs.lists.EachElement.{all_both}
use Rattle.ipx_internet.specs.Internet.{Internet, IsInternet, ports_of, port_of}
use Rattle.ipx_internet.specs.Queue.{Delivery, history_of, sends_at}
use Rattle.ipx_internet.specs.Rounds.{IsDelivery}
use Rattle.ipx_internet.specs.Run.{Happens}
use Rattle.ipx_internet.proofs.lists.EachElement.{all_of, all_then, all-append}
use Rattle.ipx_internet.proofs.packets.SentOnOrReply.{Layouts, IsOnward, not_onward}
use Rattle.ipx_internet.proofs.places.OneReceiverOfANode.{ports_at, receives_is}
use Rattle.ipx_internet.proofs.rounds.OneRound.{each_delivery}
use Rattle.ipx_laws.specs.Meanwhile.{AsksElsewhere, message_of, SaysOnly}
use Rattle.ipx_laws.specs.Ups.{ups}
use Rattle.ipx_laws.specs.Wires.{Flight, Wires, WireStep, Occurs, Lands, as_step, beaten, wired, wires_of, Along, EachBeat, EachWireStep, most_beats_flying}
use Rattle.ipx_laws.proofs.packets.SentOnSaysTheSame.{of_packet, heard_message, message_heard, sent_on_message}
use Rattle.ipx_laws.proofs.records.RecordsGrowOld.{passed}
use Rattle.ipx_laws.proofs.ticks.EventOfOneRouter.{passed_more}
use Rattle.ipx_laws.proofs.ticks.FineOrSoonEnded.{RouteSaid, EntrySaid, RipAsks, Asks, RipSaid, Said, Tells, EventTells, Abides, said_asks, abides_first, event_abides}
use Rattle.ipx_laws.proofs.ticks.SaysFineOrSoonEnded.{EventAsks, tells_asks, event_tells}
use Rattle.ipx_laws.proofs.wires.BeatAfterBeat.{Happening, Leaves, Sends, Keeps, StepsArise, AreSuch, arrival, along_then}
use Rattle.ipx_laws.proofs.wires.EarlyFlights.{IsEarly, early_soon, early_onward, early_first}
use Rattle.ipx_laws.proofs.wires.HomeOrOnward.{IsApart, IsHome, home_moves, Home, Passed, home_or_onward}

module _ (delay slack : ℕ) (IsFine : Network → Type 0) (IsServed : Service → Type 0) where
  abbrev Telling : ℕ → List ℕ → Type 0
  Telling = Tells delay slack IsFine IsServed

  -- ---- what flies

  -- a router's own packet, for the network of the port: what it says was so when it was sent
  pub record IsSaidThen (port : Port) (bytes : List ℕ) (sent : ℕ) : Type 0 where
    pub home : IsHome port bytes
    pub tells : Telling (suc sent) bytes

  -- what does no harm, whenever it lands
  abbrev pub IsHarmless : List ℕ → Type 0
  IsHarmless bytes = (begun : ℕ) → Telling begun bytes

  abbrev pub Speaks : Port → List ℕ → ℕ → Type 0
  Speaks port bytes sent = IsSaidThen port bytes sent ⊎ (IsHarmless bytes ⊎ IsEarly delay slack bytes sent)

  -- what is early says what it likes
  early_says : (begun : ℕ) → delay + begun ≤ slack → (m : Heard) → Said delay slack IsFine IsServed begun m
  early_says begun soon (HeardRip source rip) = by rip.operation
    where
      by : (operation : Operation) → RipSaid delay slack IsFine IsServed begun source operation rip.entries
      by Response = all_of (RouteSaid delay slack IsFine IsServed begun) (λ e near. inr (omega (arith, soon))) rip.entries
      by Request = inr (λ e near name same. inr (omega (arith, soon)))
  early_says begun soon (HeardSap source (Query nearest kind)) = inr (λ e near. inr (omega (arith, soon)))
  early_says begun soon (HeardSap source (SapResponse nearest entries)) =
      all_of (EntrySaid delay slack IsFine IsServed begun) (λ e near name same. inr (omega (arith, soon))) entries

  -- what a router asks isn't answered to the other process
  apart_asks : (begun : ℕ) (m : Heard) → IsApart m → Asks delay slack IsFine IsServed begun m
  apart_asks begun (HeardRip source rip) apart = by rip.operation apart
    where
      by : (operation : Operation) → AsksElsewhere source operation → RipAsks delay slack IsFine IsServed begun source operation
      by Response apart = tt
      by Request apart = inl apart
  apart_asks begun (HeardSap source (Query nearest kind)) apart = inl apart
  apart_asks begun (HeardSap source (SapResponse nearest entries)) apart = tt

  home_asks : (port : Port) (bytes : List ℕ) (begun : ℕ) → IsHome port bytes → (m : Heard) → message_of bytes ≡ Some m → Asks delay slack IsFine IsServed begun m
  home_asks port bytes begun home m e =
      apart_asks begun m (home.apart m (message_heard home.packet m (of_packet bytes home.packet m home.read e)))

  module _ (net : Internet) (laws : Layouts) (is : IsInternet net) (most_routes most_services : ℕ) where
    abbrev pub Lasts : ℕ → ℕ → History → Type 0
    Lasts router had history = Abides delay slack IsFine IsServed (ports_of net router) most_routes most_services had history

    pub record Flies (f : Flight) : Type 0 where
      pub delivery : IsDelivery net f.delivery
      pub speaks : Speaks (port_of net f.delivery.to) f.delivery.bytes f.sent

    -- what comes from outside does no harm, if its router accepts it
    abbrev pub Arises : ℕ → List History → ℕ → Event → Type 0
    Arises beats histories router event =
        (begun : ℕ) → EventTells delay slack IsFine IsServed (ports_of net router) most_routes most_services begun (history_of histories router) event

    -- the networks of the ports that are up are fine
    abbrev pub Good : List History → Type 0
    Good histories = (router number : ℕ) → is_up (ups net histories router) number ≡ true → IsFine (port_at (ports_of net router) number).network

    abbrev At : List History → ℕ → Event → Type 0
    At = Happening net laws is most_routes most_services delay Lasts Flies Arises Good

    -- ---- an event

    module _ (beats : ℕ) (histories : List History) (router : ℕ) (event : Event) (at : At histories router event) where
      abbrev ports : List Port
      ports = ports_of net router

      abbrev past : History
      past = history_of histories router

      abbrev sents : List Sent
      sents = sends_at net most_routes most_services histories router event

      -- what it leaves, if what is heard of it was told soon enough
      leaves : (begun : ℕ) → suc beats ≤ delay + begun → EventTells delay slack IsFine IsServed ports most_routes most_services begun past event
          → Leaves net laws is most_routes most_services delay Lasts Flies Arises Good beats histories router event
      leaves begun late tells had few old =
          event_abides delay slack IsFine IsServed ports most_routes most_services had begun (omega (arith, late, few, passed_more event had)) past event tells old

      listed : router < length histories
      listed = grind (arith, at.within, at.are)

      fine_now : (number : ℕ) → is_up (ports_up ports (past ++ event ∷ [])) number ≡ true → IsFine (port_at ports number).network
      fine_now number up = grind (arith, get_or-set_same, listed, at.good_now)

      all_tell : EventAsks delay slack IsFine IsServed (suc beats) ports most_routes most_services past event → Lasts router beats past
          → Lasts router (passed event beats) (past ++ event ∷ []) → AllByRecursion (λ s. Telling (suc beats) s.bytes) sents
      all_tell asks old new =
          event_tells delay slack IsFine IsServed (suc beats) ports most_routes most_services laws (ports_at net is router) past (at.are.on_ports router)
          (at.are.of_bytes router) beats (omega arith) old event at.on at.of_bytes (at.good router) fine_now new asks

      -- what it sends flies, if what is sent on does
      sends : EventAsks delay slack IsFine IsServed (suc beats) ports most_routes most_services past event
          → ((s : Sent) → sents ≢ [] → Passed laws ports event s → IsHarmless s.bytes ⊎ IsEarly delay slack s.bytes beats)
          → Sends net laws is most_routes most_services delay Lasts Flies Arises Good beats histories router event
      sends asks goes_on old new =
          let parts = home_or_onward laws ports (ports_at net is router) most_routes most_services past (at.are.on_ports router) (at.are.of_bytes router) event at.on at.of_bytes in
          let bytes = laws.bytes ports most_routes most_services past event (ports_at net is router)
          (all-append (IsOnPort ports) past (event ∷ []) (at.are.on_ports router) (at.on, tt))
          (all-append IsOfBytes past (event ∷ []) (at.are.of_bytes router) (at.of_bytes, tt)) in
          let tell = all_tell asks old new in
          each_delivery net most_routes most_services (λ d. Flies (record { delivery = d; sent = beats }))
          (λ s. IsBytes s.bytes × Speaks (port_at ports s.port) s.bytes beats) router
          (λ s to both place received. record {
            delivery = record { place = place; bytes = both.0 };
            speaks = moves (port_at ports s.port) (port_of net to) s.bytes
                (receives_is net (record { router = router; port = s.port }) s.link to received).network both.1;
          })
          sents (all_both (λ s. IsBytes s.bytes) (λ s. Speaks (port_at ports s.port) s.bytes beats) sents bytes (spoken sents refl parts tell))
        where
          moves : (a b : Port) (bytes : List ℕ) → b.network ≡ a.network → Speaks a bytes beats → Speaks b bytes beats
          moves a b bytes same (inl said) = inl (record { home = home_moves a b bytes same said.home; tells = said.tells })
          moves a b bytes same (inr other) = inr other

          spoken : (ss : List Sent) → sents ≡ ss → AllByRecursion (λ s. Home laws ports s ⊎ Passed laws ports event s) ss
              → AllByRecursion (λ s. Telling (suc beats) s.bytes) ss → AllByRecursion (λ s. Speaks (port_at ports s.port) s.bytes beats) ss
          spoken [] same parts tell = tt
          spoken (first ∷ rest) same parts tell =
              let some : sents ≢ [] = λ none. let count : suc (length rest) ≡ 0 = ap length (sym same ∙ none) in absurd (omega (arith, count)) in
              all_then (λ s. (Home laws ports s ⊎ Passed laws ports event s) × Telling (suc beats) s.bytes) (λ s. Speaks (port_at ports s.port) s.bytes beats)
              (λ s both. one s some both.0 both.1) (first ∷ rest)
              (all_both (λ s. Home laws ports s ⊎ Passed laws ports event s) (λ s. Telling (suc beats) s.bytes) (first ∷ rest) parts tell)
            where
              one : (s : Sent) → sents ≢ [] → Home laws ports s ⊎ Passed laws ports event s → Telling (suc beats) s.bytes → Speaks (port_at ports s.port) s.bytes beats
              one s some (inl home) tells = inl (record { home = home; tells = tells })
              one s some (inr passed_on) tells = inr (goes_on s some passed_on)

      -- ---- from outside

      module _ (arises : Arises beats histories router event) where
        outside_leaves : Leaves net laws is most_routes most_services delay Lasts Flies Arises Good beats histories router event
        outside_leaves = leaves (suc beats) (omega arith) (arises (suc beats))

        outside_sends : Sends net laws is most_routes most_services delay Lasts Flies Arises Good beats histories router event
        outside_sends =
            sends (tells_asks delay slack IsFine IsServed (suc beats) ports most_routes most_services past event (arises (suc beats)))
            (λ s some passed_on. inl (λ begun. by event arises begun s some passed_on))
          where
            by : (x : Event) → ((begun : ℕ) → EventTells delay slack IsFine IsServed ports most_routes most_services begun past x) → (begun : ℕ) (s : Sent)
                → sends_at net most_routes most_services histories router x ≢ [] → Passed laws ports x s → Telling begun s.bytes
            by (Packet number bytes) tells begun s some onward = λ m e. tells begun (inr some) m (sent_on_message (port_at ports number) bytes s.bytes onward m e)
            by x tells begun s some onward = absurd onward

    -- ---- a flight that lands

    module _ (beats : ℕ) (histories : List History) (f : Flight)
        (at : At histories f.delivery.to.router (arrival net laws is most_routes most_services delay Lasts Flies Arises Good f)) (flies : Flies f)
        (timely : beats ≤ f.sent + delay) where
      abbrev router : ℕ
      router = f.delivery.to.router

      abbrev bytes : List ℕ
      bytes = f.delivery.bytes

      abbrev event : Event
      event = arrival net laws is most_routes most_services delay Lasts Flies Arises Good f

      abbrev port : Port
      port = port_of net f.delivery.to

      lands_leaves : Leaves net laws is most_routes most_services delay Lasts Flies Arises Good beats histories router event
      lands_leaves = by flies.speaks
        where
          by : Speaks port bytes f.sent → Leaves net laws is most_routes most_services delay Lasts Flies Arises Good beats histories router event
          by (inl said) = leaves beats histories router event at (suc f.sent) (omega (arith, timely)) (λ accepted. said.tells)
          by (inr (inl harmless)) = leaves beats histories router event at (suc beats) (omega arith) (λ accepted. harmless (suc beats))
          by (inr (inr early)) =
              leaves beats histories router event at (suc beats) (omega arith)
              (λ accepted m e. early_says (suc beats) (early_soon delay slack bytes f.sent beats early timely) m)

      lands_sends : Sends net laws is most_routes most_services delay Lasts Flies Arises Good beats histories router event
      lands_sends = by flies.speaks
        where
          by : Speaks port bytes f.sent → Sends net laws is most_routes most_services delay Lasts Flies Arises Good beats histories router event
          by (inl said) =
              let home = said.home in
              let stays : (s : List ℕ) → IsOnward port bytes s → ⊥ = λ s onward. not_onward port bytes s home.packet home.read home.plain home.home onward in
              sends beats histories router event at (
                (λ m e. home_asks port bytes (suc beats) home m (heard_message (ports_of net router) (history_of histories router) f.delivery.to.port bytes m e)),
                (λ s some onward. absurd (stays s onward)),
              ) (λ s some onward. absurd (stays s.bytes onward))
          by (inr (inl harmless)) =
              sends beats histories router event at
              (tells_asks delay slack IsFine IsServed (suc beats) (ports_of net router) most_routes most_services (history_of histories router) event (λ accepted. harmless (suc beats)))
              (λ s some onward. inl (λ begun m e. harmless begun m (sent_on_message port bytes s.bytes onward m e)))
          by (inr (inr early)) =
              let soon = early_soon delay slack bytes f.sent beats early timely in
              sends beats histories router event at (
                (λ m e. said_asks delay slack IsFine IsServed (suc beats) m (early_says (suc beats) soon m)),
                (λ s some onward m e. early_says (suc beats) soon m),
              ) (λ s some onward. inr (early_onward delay slack port bytes s.bytes f.sent beats early timely onward))

    pub keeps : Keeps net laws is most_routes most_services delay Lasts Flies Arises Good
    keeps = record {
      weakens = λ router history old. abides_first delay slack IsFine IsServed (ports_of net router) most_routes most_services history;
      delivers = λ f flies. flies.delivery;
      occurs_leaves = λ beats histories router event at arises. outside_leaves beats histories router event at arises;
      occurs_sends = λ beats histories router event at arises. outside_sends beats histories router event at arises;
      lands_leaves = λ beats histories f at flies timely. lands_leaves beats histories f at flies timely;
      lands_sends = λ beats histories f at flies timely. lands_sends beats histories f at flies timely;
    }

    -- whatever flies at first is early
    pub any_flies : most_beats_flying delay ≤ slack → (d : Delivery) → IsDelivery net d → Flies (record { delivery = d; sent = 0 })
    any_flies room d delivery = record {
      delivery = delivery;
      speaks = inr (inr (early_first delay slack room d.bytes));
    }

    -- ---- packets of hosts that do no harm

    abbrev pub Such : Wires → List WireStep → Type 0
    Such = AreSuch net laws is most_routes most_services delay Lasts Flies Arises Good

    abbrev pub Alongside : (Wires → Type 0) → Wires → List WireStep → Type 0
    Alongside = Along net most_routes most_services delay

    module _ (Says : Heard → Type 0) (harmless : (begun : ℕ) (m : Heard) → Says m → Said delay slack IsFine IsServed begun m) where
      event_arises : (beats : ℕ) (histories : List History) (router : ℕ) (event : Event) → SaysOnly Says (Happens router event) → Arises beats histories router event
      event_arises beats histories at Start says begun = tt
      event_arises beats histories at Stop says begun = tt
      event_arises beats histories at Second says begun = tt
      event_arises beats histories at (Packet number came) says begun = λ accepted m e. harmless begun m (subst (λ (o : Option Heard). IfSome o Says) e says)
      event_arises beats histories at (PortDown number) says begun = tt
      event_arises beats histories at (PortUp number) says begun = tt

      steps_arise : (w : Wires) (steps : List WireStep) → AllByRecursion (λ step. SaysOnly Says (as_step step)) steps
          → StepsArise net laws is most_routes most_services delay Lasts Flies Arises Good w steps
      steps_arise w [] says = tt
      steps_arise w (Occurs at x ∷ steps) says =
          (event_arises w.beats w.histories at x says.0, steps_arise (wired net most_routes most_services delay w (Occurs at x)) steps says.1)
      steps_arise w (Lands which ∷ steps) says = (tt, steps_arise (wired net most_routes most_services delay w (Lands which)) steps says.1)

      -- beats in which hosts say only such, and ports are as they should be
      pub such_beats : (Is : Wires → Type 0) → ((w : Wires) → Is w → Good w.histories) → (w : Wires) (beats : List (List WireStep))
          → EachBeat net most_routes most_services delay (Alongside Is) w beats → EachWireStep (SaysOnly Says) beats
          → EachBeat net most_routes most_services delay Such w beats
      such_beats Is good w [] along says = tt
      such_beats Is good w (steps ∷ beats) along says = (
        record {
          arise = steps_arise w steps says.0;
          good = along_then net most_routes most_services delay Is (λ now. Good now.histories) good w steps along.0;
        },
        such_beats Is good (beaten (wires_of net most_routes most_services delay w steps)) beats along.1 says.1,
      )
