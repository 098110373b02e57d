-- What flies while hosts announce a service and ports stay as they are: what a router says of it, which was so when it was sent; what doesn't
-- name it; and what flew at first, which is over soon.
use Rattle.std.proofs.Common.{◌≡◌, refl, sym, ◌∙◌, subst, ◌⊎◌, ℕ, suc, ◌+◌, ◌<◌, ◌≤◌, List, [], ◌∷◌, ◌++◌, length, map, flat_map, Option, None, Some, IfSome, inl, inr, arith, get_or-set_same}
use Rattle.std.specs.List.{AllByRecursion}
use Rattle.ipx_table.specs.Facts.{Fact, Offered}
use Rattle.ipx_wire.specs.Piece.{IsBytes}
use Rattle.ipx_wire.specs.declared.node.Node.{Node}
use Rattle.ipx_wire.specs.declared.sap.Sap.TheVariants.{Query, Response as SapResponse}
use Rattle.ipx_wire.specs.declared.sap_entries.SapEntry.{SapEntry}
use Rattle.ipx_wire.specs.declared.service.Service.{Service}
use Rattle.ipx_router.specs.Facts.{services_offered, services_heard, heard_after, service_facts, service_facts_of, services_held, offers}
use Rattle.ipx_router.specs.Heard.{Heard, HeardRip, HeardSap}
use Rattle.ipx_router.specs.History.{Event, History, Start, Stop, Second, Packet, PortDown, PortUp, IsOnPort, IsOfBytes}
use Rattle.ipx_router.specs.News.{news_services}
use Rattle.ipx_router.specs.Port.{Port, port_at}
use Rattle.ipx_router.specs.Relays.{Sent}
use Rattle.ipx_router.specs.Services.{service_reading, service_order}
use Rattle.ipx_router.specs.Told.{told_services}
use Rattle.ipx_router.specs.declared.service_offer.ServiceOffer.{ServiceOffer}
use Rattle.ipx_router.proofs.bounds.PacketsOfEachEvent.{service_total}
use Rattle.ipx_router.proofs.histories.OneEventMore.{ports_stay}
use Rattle.ipx_router.proofs.lists.EachElement.{all_both}
use Rattle.ipx_router.proofs.tables.OffersOfAMessage.{facts_from-more}
use Rattle.ipx_internet.specs.Internet.{Internet, IsInternet, Place, ports_of, port_of}
use Rattle.ipx_internet.specs.Queue.{Delivery, deliveries_of, history_of, sends_at}
use Rattle.ipx_internet.specs.Rounds.{IsDelivery}
use Rattle.ipx_internet.specs.Run.{Step, Happens, Settles}
use Rattle.ipx_internet.proofs.lists.EachElement.{all_then, all-append}
use Rattle.ipx_internet.proofs.packets.ResponsesAskNothing.{IsAnswering, answering}
use Rattle.ipx_internet.proofs.packets.SentOnOrReply.{Layouts, IsReply, IsOnward, no_reply}
use Rattle.ipx_internet.proofs.places.OneReceiverOfANode.{ports_at, receives_is}
use Rattle.ipx_internet.proofs.records.HeardChangesItsKeys.{service_offer}
use Rattle.ipx_internet.proofs.records.KeptOrOffered.{OffersOf}
use Rattle.ipx_internet.proofs.rounds.OneRound.{each_delivery}
use Rattle.ipx_laws.specs.Announces.{AsksApart}
use Rattle.ipx_laws.specs.Meanwhile.{message_of, AsksElsewhere, SaysOnly, LeavesPorts}
use Rattle.ipx_laws.specs.Servers.{Server, MaySay, SaysNoFalse, NamesOnly}
use Rattle.ipx_laws.specs.Wires.{Flight, Wires, WireStep, Occurs, Lands, as_step, beaten, wired, wires_of, Along, EachBeat, EachWireStep, most_beats_flying}
use Rattle.ipx_laws.proofs.packets.SentOnSaysTheSame.{of_packet, message_heard}
use Rattle.ipx_laws.proofs.records.RecordsGrowOld.{IsOldOffer, after_offers}
use Rattle.ipx_laws.proofs.services.ServedOrSoonEnded.{Fine, ServicesAged, Endures, at_begin, event_endures, services_said, changes_said}
use Rattle.ipx_laws.proofs.services.SpokenByARouter.{second_spoken, packet_spoken}
use Rattle.ipx_laws.proofs.services.SpokenOfAServer.{at, Silent, Names, told_asks, Waits, IsSpoken, ServiceSaid, host_waits, spoken_waits}
use Rattle.ipx_laws.proofs.wires.BeatAfterBeat.{Happening, Leaves, Sends, Keeps, Going, AreSuch, StepsArise}
use Rattle.ipx_laws.proofs.wires.EarlyFlights.{IsEarly, early_soon, early_onward, early_first, IsSoon, soon_comes, soon_sent}

-- any history, and any word
abbrev pub AnyHistory : ℕ → History → Type 0
AnyHistory router history = Unit {0}

abbrev pub AnyWord : ℕ → ℕ → Service → Type 0
AnyWord sent router s = Unit {0}

-- a response asks nothing
answer_asks : (m : Heard) → IsAnswering m → AsksApart m
answer_asks (HeardRip source rip) is = subst (λ o. AsksElsewhere source o) (sym is) tt
answer_asks (HeardSap source sap) is = tt

-- what is so of each router's history at any moment, and so of each service that the router sends then
module _ (delay slack : ℕ) (net : Internet) (laws : Layouts) (is : IsInternet net) (most_routes most_services : ℕ) (up : ℕ → List ℕ) (server : Server)
    (Listed : ℕ × List ℕ → Type 0) (Fit : ℕ → History → Type 0) (Says : ℕ → ℕ → Service → Type 0) where
  -- ---- what flies

  abbrev own_port : ℕ → ℕ → Place
  own_port router j = at net up server Listed router j

  -- it tells of such services as its sender did
  abbrev pub WaitsSince : ℕ → Place → List ℕ → Type 0
  WaitsSince sent = Waits net up server Listed delay slack (Says sent) (suc sent)

  abbrev pub Speaks : Place → List ℕ → ℕ → Type 0
  Speaks to bytes sent = WaitsSince sent to bytes ⊎ IsSoon delay slack (port_of net to) bytes sent

  pub record Flies (f : Flight) : Type 0 where
    pub delivery : IsDelivery net f.delivery
    pub speaks : Speaks f.delivery.to f.delivery.bytes f.sent

  -- what a router has, and which ports are up
  abbrev pub Lasts : ℕ → ℕ → History → Type 0
  Lasts router had history = Endures delay slack net up server Listed most_services router had history

  -- what comes from outside: seconds, and packets that say nothing false of the service and name listed ones
  abbrev pub FromOutside : ℕ → Event → Type 0
  FromOutside router (Packet number bytes) = MaySay net server (own_port router number) bytes × Names net up server Listed bytes
  FromOutside router Second = Unit
  FromOutside router event = ⊥

  abbrev pub Arises : ℕ → List History → ℕ → Event → Type 0
  Arises beats histories router event = FromOutside router event

  abbrev pub Good : List History → Type 0
  Good histories = (router : ℕ) → router < length net → Fit router (history_of histories router)

  abbrev pub services_in : ℕ → History → List ServiceOffer
  services_in router history = offers (services_held (ports_of net router) most_services history)

  -- so of all that a router advertises then, and of its changes
  pub record Extras : Type 0 where
    pub advertised : (beats had router : ℕ) (history : History) → beats ≤ had → Lasts router had history → Fit router history → (j : ℕ)
        → AllByRecursion (Says beats router) (told_services (services_in router history) j)
    pub changed : (beats had router : ℕ) (old : List ServiceOffer) (new : History) → beats ≤ had → Lasts router had new → Fit router new → (j : ℕ)
        → AllByRecursion (Says beats router) (news_services old (services_in router new) j)

  abbrev At : List History → ℕ → Event → Type 0
  At = Happening net laws is most_routes most_services delay Lasts Flies Arises Good

  abbrev LeavesIt : ℕ → List History → ℕ → Event → Type 0
  LeavesIt = Leaves net laws is most_routes most_services delay Lasts Flies Arises Good

  abbrev SendsIt : ℕ → List History → ℕ → Event → Type 0
  SendsIt = Sends net laws is most_routes most_services delay Lasts Flies Arises Good

  -- the history with an event more is the one that is there then
  fit_now : (histories : List History) (router : ℕ) (event : Event) → At histories router event → Fit router (history_of histories router ++ event ∷ [])
  fit_now histories router event place =
      let within = place.within in
      let each = place.are.each in
      let listed : router < length histories = omega (arith, within, each) in
      subst (λ (h : History). Fit router h) (get_or-set_same histories router (history_of histories router ++ event ∷ []) [] listed) (place.good_now router within)

  -- ---- where any offer is old enough, any packet may come

  module _ (router had : ℕ) (soon : had ≤ slack) where
    abbrev ServiceOld : ServiceOffer → Type 0
    ServiceOld =
        IsOldOffer service_reading service_order service_total most_services (map (λ p. p.service_share) (ports_of net router)) (λ s. s.service.hops) (λ s. refl)
        delay slack (Fine delay slack net up server Listed most_services router) had

    abbrev AgedSo : List (Fact ServiceOffer) → Type 0
    AgedSo = ServicesAged delay slack net up server Listed most_services router had

    each_old : (number : ℕ) (node : Node) (entries : List SapEntry) → AllByRecursion (OffersOf ServiceOld) (services_offered number node entries)
    each_old number node [] = tt
    each_old number node (e ∷ entries) = all-append (OffersOf ServiceOld) _ (services_offered number node entries) (by e.name) (each_old number node entries)
      where
        by : (name : Option (List ℕ)) → AllByRecursion (OffersOf ServiceOld) (elim name [
          | None ↦ []
          | Some name ↦ Offered (service_offer number node e name) ∷ []
        ])
        by None = tt
        by (Some name) = ((λ near. inr (omega (arith, soon))), tt)

    any_old : (number : ℕ) (o : Option Heard) → AllByRecursion (OffersOf ServiceOld) (services_heard number o)
    any_old number None = tt
    any_old number (Some (HeardRip source rip)) = tt
    any_old number (Some (HeardSap source (Query nearest kind))) = tt
    any_old number (Some (HeardSap source (SapResponse nearest entries))) = each_old number source.node entries

    soon_endures : (number : ℕ) (bytes : List ℕ) (history : History) → Lasts router had history → Lasts router had (history ++ Packet number bytes ∷ [])
    soon_endures number bytes history endures =
        let ports = ports_of net router in
        let fine = Fine delay slack net up server Listed most_services router in
        record {
          services =
              subst (λ (fs : List (Fact ServiceOffer)). AgedSo fs) (sym (facts_from-more (service_facts_of ports) [] history (Packet number bytes)))
              (after_offers service_reading service_order service_total most_services (map (λ p. p.service_share) ports) (λ s. s.service.hops)
              (λ s. refl) delay slack fine had
              (services_heard number (heard_after ports history number bytes)) (service_facts ports history)
              (any_old number (heard_after ports history number bytes)) endures.services);
          ups = ports_stay ports history (Packet number bytes) refl refl (λ port. refl) (λ port. refl) ∙ endures.ups;
        }

  -- ---- what a router says itself

  module _ (beats : ℕ) (histories : List History) (router : ℕ) (event : Event) (place : At histories router event) where
    abbrev past : History
    past = history_of histories router

    abbrev sents : List Sent
    sents = sends_at net most_routes most_services histories router event

    abbrev Flying : Delivery → Type 0
    Flying d = Flies (record { delivery = d; sent = beats })

    abbrev SpokenNow : Sent → Type 0
    SpokenNow = IsSpoken net up server Listed delay slack (Says beats) (suc beats) router

    -- all that is sent is bytes
    sent_bytes : AllByRecursion (λ s. IsBytes s.bytes) sents
    sent_bytes =
        let ports = ports_of net router in
        laws.bytes ports most_routes most_services past event (ports_at net is router)
        (all-append (IsOnPort ports) past (event ∷ []) (place.are.on_ports router) (place.on, tt))
        (all-append IsOfBytes past (event ∷ []) (place.are.of_bytes router) (place.of_bytes, tt))

    spoken_flies : AllByRecursion SpokenNow sents → AllByRecursion Flying (flat_map (deliveries_of net router) sents)
    spoken_flies spoken =
        each_delivery net most_routes most_services Flying (λ s. IsBytes s.bytes × SpokenNow s) router
        (λ s to both there received.
        let got = receives_is net (own_port router s.port) s.link to received in
        record {
          delivery = record { place = there; bytes = both.0 };
          speaks = inl (spoken_waits net up server Listed delay slack (Says beats) (suc beats) router s to
              (λ here_up. record { other = got.other; network = got.network; on = here_up }) both.1);
        })
        sents (all_both (λ s. IsBytes s.bytes) SpokenNow sents sent_bytes spoken)

    -- or sends for what flew at first
    others_fly : AllByRecursion (λ s. IsSoon delay slack (port_at (ports_of net router) s.port) s.bytes beats) sents
        → AllByRecursion Flying (flat_map (deliveries_of net router) sents)
    others_fly others =
        all_then (λ d. IsDelivery net d × IsSoon delay slack (port_of net d.to) d.bytes beats) Flying (λ d both. record { delivery = both.0; speaks = inr both.1 })
        (flat_map (deliveries_of net router) sents)
        (soon_comes delay slack net laws is most_routes most_services beats histories place.are router event place.on place.of_bytes others)

  module _ (extras : Extras) where
    abbrev SaidNow : ℕ → ℕ → ℕ → Service → Type 0
    SaidNow beats router j = ServiceSaid net up server Listed delay slack (Says beats) (suc beats) (own_port router j)

    all_told : (beats had router : ℕ) (history : History) → beats ≤ had → Lasts router had history → Fit router history → (j : ℕ)
        → AllByRecursion (SaidNow beats router j) (told_services (services_in router history) j)
    all_told beats had router history enough lasts fit j =
        services_said delay slack net up server Listed most_services router had (suc beats) (omega (arith, enough)) history lasts (Says beats) j
        (extras.advertised beats had router history enough lasts fit j)

    all_news : (beats had router : ℕ) (old : List ServiceOffer) (new : History) → beats ≤ had → Lasts router had new → Fit router new → (j : ℕ)
        → AllByRecursion (SaidNow beats router j) (news_services old (services_in router new) j)
    all_news beats had router old new enough lasts fit j =
        changes_said delay slack net up server Listed most_services router had (suc beats) (omega (arith, enough)) new lasts (Says beats) old j
        (extras.changed beats had router old new enough lasts fit j)

    -- ---- seconds

    second_sends : (beats : ℕ) (histories : List History) (router : ℕ) → At histories router Second → SendsIt beats histories router Second
    second_sends beats histories router place old new =
        let past_now = history_of histories router in
        let now = past_now ++ Second ∷ [] in
        let fit_then = fit_now histories router Second place in
        spoken_flies beats histories router Second place
        (second_spoken net laws is most_routes most_services up server Listed delay slack (Says beats) (suc beats) router past_now (place.are.on_ports router)
        (place.are.of_bytes router) new.ups (all_told beats (suc beats) router now (omega arith) new fit_then)
        (all_news beats (suc beats) router (services_in router past_now) now (omega arith) new fit_then))

    -- ---- packets

    module _ (beats : ℕ) (histories : List History) (d : Delivery) (place : At histories d.to.router (Packet d.to.port d.bytes)) (delivery : IsDelivery net d) where
      abbrev router : ℕ
      router = d.to.router

      abbrev ports : List Port
      ports = ports_of net router

      abbrev before : History
      before = history_of histories router

      abbrev now : History
      now = before ++ Packet d.to.port d.bytes ∷ []

      abbrev heard_now : Option Heard
      heard_now = heard_after ports before d.to.port d.bytes

      abbrev here : List Sent
      here = sends_at net most_routes most_services histories router (Packet d.to.port d.bytes)

      -- what is told when it comes
      packet_sends : ((m : Heard) → message_of d.bytes ≡ Some m → AsksApart m)
          → ((sent : List ℕ) → IsOnward (port_at ports d.to.port) d.bytes sent → Silent net up server Listed sent)
          → SendsIt beats histories router (Packet d.to.port d.bytes)
      packet_sends asks onward old new =
          spoken_flies beats histories router (Packet d.to.port d.bytes) place
          (packet_spoken net laws is most_routes most_services up server Listed delay slack (Says beats) (suc beats) router before (place.are.on_ports router)
          (place.are.of_bytes router) d.to.port d.bytes delivery.place delivery.bytes asks onward old.ups new.ups
          (all_told beats beats router before (omega arith) old (place.good router place.within))
          (all_news beats beats router (services_in router before) now (omega arith) new (fit_now histories router (Packet d.to.port d.bytes) place)))

      -- what is sent for what flew at first, if what is sent on of it is early
      early_sends : delay + suc beats ≤ slack → ((s : Sent) → IsOnward (port_at ports d.to.port) d.bytes s.bytes → IsEarly delay slack s.bytes beats)
          → SendsIt beats histories router (Packet d.to.port d.bytes)
      early_sends soon early old new =
          others_fly beats histories router (Packet d.to.port d.bytes) place
          (soon_sent delay slack net laws is most_routes most_services beats histories place.are router d.to.port d.bytes delivery.place delivery.bytes soon early)

      -- for an answer nothing is told but changes
      over_sends : IsReply (port_of net d.to) d.bytes → SendsIt beats histories router (Packet d.to.port d.bytes)
      over_sends reply =
          packet_sends
          (λ m e. answer_asks m (answering reply.packet reply.answers m (message_heard reply.packet m (of_packet d.bytes reply.packet m reply.read e))))
          (λ sent onward. absurd (no_reply (port_at ports d.to.port) d.bytes sent reply onward))

    -- ---- each event

    -- what comes is that packet
    waits_as : {sent router : ℕ} (number : ℕ) (bytes : List ℕ) (other : ℕ) (given : List ℕ) → Packet number bytes ≡ Packet other given
        → WaitsSince sent (own_port router number) bytes → WaitsSince sent (own_port router other) given
    waits_as number bytes other given same waits = grind arith

    module _ (beats : ℕ) (histories : List History) (router : ℕ) where
      since_now : (number : ℕ) (bytes : List ℕ) → FromOutside router (Packet number bytes) → WaitsSince beats (own_port router number) bytes
      since_now number bytes outside = host_waits net up server Listed delay slack (Says beats) (suc beats) (own_port router number) bytes outside.0 outside.1

      outside_leaves : (event : Event) → At histories router event → FromOutside router event → LeavesIt beats histories router event
      outside_leaves Second place outside had few old =
          event_endures delay slack net up server Listed most_services router had (suc beats) (omega (arith, few)) (Says beats) (history_of histories router) old Second tt
          (λ number bytes (none : Second ≡ Packet number bytes). no_packet number bytes none)
        where
          no_packet : (number : ℕ) (bytes : List ℕ) → Second ≡ Packet number bytes → WaitsSince beats (own_port router number) bytes
          no_packet number bytes none = grind arith
      outside_leaves (Packet number bytes) place outside had few old =
          event_endures delay slack net up server Listed most_services router had (suc beats) (omega (arith, few)) (Says beats) (history_of histories router) old
          (Packet number bytes) tt (λ other given same. waits_as number bytes other given same (since_now number bytes outside))
      outside_leaves Start place outside had few old = absurd outside
      outside_leaves Stop place outside had few old = absurd outside
      outside_leaves (PortDown number) place outside had few old = absurd outside
      outside_leaves (PortUp number) place outside had few old = absurd outside

      outside_sends : (event : Event) → At histories router event → FromOutside router event → SendsIt beats histories router event
      outside_sends Second place outside = second_sends beats histories router place
      outside_sends (Packet number bytes) place outside =
          let waits = since_now number bytes outside in
          packet_sends beats histories (record {
            to =
                record { router = router; port = number };
            bytes = bytes;
          }) place (record { place = place.on; bytes = place.of_bytes })
          (λ m e. told_asks net up server Listed delay slack (Says beats) (suc beats) (own_port router number) m (waits.tells m e)) waits.onward
      outside_sends Start place outside = absurd outside
      outside_sends Stop place outside = absurd outside
      outside_sends (PortDown number) place outside = absurd outside
      outside_sends (PortUp number) place outside = absurd outside

    module _ (beats : ℕ) (histories : List History) (f : Flight)
        (place : At histories f.delivery.to.router (Packet f.delivery.to.port f.delivery.bytes)) (flies : Flies f) (timely : beats ≤ f.sent + delay) where
      abbrev past_there : History
      past_there = history_of histories f.delivery.to.router

      lands_leaves : LeavesIt beats histories f.delivery.to.router (Packet f.delivery.to.port f.delivery.bytes)
      lands_leaves had few old = by flies.speaks
        where
          by : Speaks f.delivery.to f.delivery.bytes f.sent → Lasts f.delivery.to.router had (past_there ++ Packet f.delivery.to.port f.delivery.bytes ∷ [])
          by (inl waits) =
              event_endures delay slack net up server Listed most_services f.delivery.to.router had (suc f.sent) (omega (arith, few, timely)) (Says f.sent) past_there old
              (Packet f.delivery.to.port f.delivery.bytes) tt (λ other given same. waits_as f.delivery.to.port f.delivery.bytes other given same waits)
          by (inr (inl early)) =
              let all = early_soon delay slack f.delivery.bytes f.sent beats early timely in
              soon_endures f.delivery.to.router had (omega (arith, all, few)) f.delivery.to.port f.delivery.bytes past_there old
          by (inr (inr over)) =
              let all = over.soon in
              soon_endures f.delivery.to.router had (omega (arith, all, few, timely)) f.delivery.to.port f.delivery.bytes past_there old

      lands_sends : SendsIt beats histories f.delivery.to.router (Packet f.delivery.to.port f.delivery.bytes)
      lands_sends = by flies.speaks
        where
          by : Speaks f.delivery.to f.delivery.bytes f.sent → SendsIt beats histories f.delivery.to.router (Packet f.delivery.to.port f.delivery.bytes)
          by (inl waits) =
              packet_sends beats histories f.delivery place flies.delivery
              (λ m e. told_asks net up server Listed delay slack (Says f.sent) (suc f.sent) f.delivery.to m (waits.tells m e)) waits.onward
          by (inr (inl early)) =
              early_sends beats histories f.delivery place flies.delivery (early_soon delay slack f.delivery.bytes f.sent beats early timely)
              (λ s onward. early_onward delay slack (port_of net f.delivery.to) f.delivery.bytes s.bytes f.sent beats early timely onward)
          by (inr (inr over)) = over_sends beats histories f.delivery place flies.delivery over.reply

    pub keeps : Keeps net laws is most_routes most_services delay Lasts Flies Arises Good
    keeps = record {
      weakens = λ router history old. at_begin delay slack net up server Listed most_services router history old.ups;
      delivers = λ f flies. flies.delivery;
      occurs_leaves = λ beats histories router event place outside. outside_leaves beats histories router event place outside;
      occurs_sends = λ beats histories router event place outside. outside_sends beats histories router event place outside;
      lands_leaves = λ beats histories f place flies timely. lands_leaves beats histories f place flies timely;
      lands_sends = λ beats histories f place flies timely. lands_sends beats histories f place flies timely;
    }

  -- ---- what comes of it

  -- hosts say nothing false of it and name listed services, and ports stay as they are
  abbrev OfStep : Step → Type 0
  OfStep (Happens place event) = FromOutside place event
  OfStep Settles = Unit

  outside : (step : Step) → LeavesPorts step → SaysNoFalse net server step → SaysOnly (NamesOnly Listed) step → OfStep step
  outside (Happens place Second) leaves says names = tt
  outside (Happens place (Packet number bytes)) leaves says names = (says, λ m e. subst (λ (o : Option Heard). IfSome o (NamesOnly Listed)) e names)
  outside (Happens place Start) leaves says names = absurd leaves
  outside (Happens place Stop) leaves says names = absurd leaves
  outside (Happens place (PortDown number)) leaves says names = absurd leaves
  outside (Happens place (PortUp number)) leaves says names = absurd leaves
  outside Settles leaves says names = tt

  abbrev pub Such : Wires → List WireStep → Type 0
  Such = AreSuch net laws is most_routes most_services delay Lasts Flies Arises Good

  pub steps_arise : (w : Wires) (steps : List WireStep) → AllByRecursion (λ step. LeavesPorts (as_step step)) steps
      → AllByRecursion (λ step. SaysNoFalse net server (as_step step)) steps → AllByRecursion (λ step. SaysOnly (NamesOnly Listed) (as_step step)) steps
      → StepsArise net laws is most_routes most_services delay Lasts Flies Arises Good w steps
  steps_arise w [] leave say names = tt
  steps_arise w (Occurs router event ∷ steps) leave say names = (
    outside (Happens router event) leave.0 say.0 names.0,
    steps_arise (wired net most_routes most_services delay w (Occurs router event)) steps leave.1 say.1 names.1,
  )
  steps_arise w (Lands which ∷ steps) leave say names =
      (tt, steps_arise (wired net most_routes most_services delay w (Lands which)) steps leave.1 say.1 names.1)

  abbrev pub AllGood : Wires → List WireStep → Type 0
  AllGood w steps = Along net most_routes most_services delay (λ now. Good now.histories) w steps

  pub such_beats : (w : Wires) (beats : List (List WireStep)) → EachBeat net most_routes most_services delay AllGood w beats → EachWireStep LeavesPorts beats
      → EachWireStep (SaysNoFalse net server) beats → EachWireStep (SaysOnly (NamesOnly Listed)) beats → EachBeat net most_routes most_services delay Such w beats
  such_beats w [] good leave say names = tt
  such_beats w (steps ∷ beats) good leave say names = (
    record { arise = steps_arise w steps leave.0 say.0 names.0; good = good.0 },
    such_beats (beaten (wires_of net most_routes most_services delay w steps)) beats good.1 leave.1 say.1 names.1,
  )

  abbrev pub Goes : ℕ → (ℕ → ℕ) → Wires → Type 0
  Goes = Going net laws is most_routes most_services delay Lasts Flies Arises Good

  -- whatever flies at first is early
  pub any_flies : most_beats_flying delay ≤ slack → (d : Delivery) → IsDelivery net d → Flies (record { delivery = d; sent = 0 })
  any_flies room d delivery = record { delivery = delivery; speaks = inr (inl (early_first delay slack room d.bytes)) }
