-- While nothing happens but gains and deliveries each route stays of a real way, over the ports that are up in the end.
use Rattle.std.proofs.Common.{◌≡◌, refl, sym, ap, ◌∙◌, subst, ◌⊎◌, ℕ, ◌+◌, ◌*◌, ◌<◌, ◌≤◌, ◌&&◌, not, if◌then◌else◌, Bool, true, false, List, [], ◌∷◌, ◌++◌, length, map, flat_map, Option, Some, None, inl, inr, arith, append-nil, get_or-set_same, get_or-set_other}
use Rattle.std.specs.List.{AllByRecursion}
use Rattle.std.proofs.lemmas.Bool.{cases_eq, cases_lt, and_parts, both_ways}
use Rattle.std.proofs.lemmas.List.{get_or_past}
use Rattle.ipx_table.specs.Facts.{Fact}
use Rattle.ipx_table.specs.declared.held.Held.{Held}
use Rattle.ipx_table.proofs.Order.{all-from_order}
use Rattle.ipx_table.proofs.Standing.{rules_total}
use Rattle.ipx_wire.specs.Packet.{Parts, packet_of}
use Rattle.ipx_wire.specs.Piece.{IsBytes}
use Rattle.ipx_wire.specs.declared.address.Address.{Address}
use Rattle.ipx_wire.specs.declared.node.Node.{Node}
use Rattle.ipx_wire.specs.declared.rip.Operation.{Operation}
use Rattle.ipx_wire.specs.declared.rip.Operation.TheVariants.{Request, Response}
use Rattle.ipx_wire.specs.declared.rip.RipEntry.{RipEntry}
use Rattle.ipx_table.specs.Alive.{lifetime}
use Rattle.ipx_router.specs.Facts.{route_facts, route_facts_of, routes_offered, routes_heard, heard_after, routes_held, offers}
use Rattle.ipx_router.specs.Heard.{Heard, HeardRip, HeardSap, heard_in, heard_near}
use Rattle.ipx_router.specs.History.{Event, History, Start, Stop, Second, Packet, PortDown, PortUp, IsOnPort, IsOfBytes, is_stop, takes_down, running, ports_up}
use Rattle.ipx_router.specs.Port.{Port, port_at, is_up}
use Rattle.ipx_router.specs.Relays.{Sent}
use Rattle.ipx_router.specs.Routes.{route_rules, route_reading, network_order}
use Rattle.ipx_router.specs.Sends.{Holding, holding, introduction, port_up_on}
use Rattle.ipx_router.specs.declared.route_offer.RouteOffer.{RouteOffer}
use Rattle.ipx_router.proofs.bounds.PacketsOfEachEvent.{network_total}
use Rattle.ipx_router.proofs.bytes.ReadInOneWay.{one_read}
use Rattle.ipx_router.proofs.histories.OneEventMore.{none_up, up_stays, port_comes_up}
use Rattle.ipx_router.proofs.lists.EachElement.{all_both}
use Rattle.ipx_router.proofs.port_values.PortOfEachNumber.{members}
use Rattle.ipx_router.proofs.tables.HeldWasOffered.{came_in, heard_up}
use Rattle.ipx_router.proofs.tables.OffersOfAMessage.{facts_from-more}
use Rattle.ipx_router.proofs.verdicts.HeardIsAsLayoutsAllow.{heard_is}
use Rattle.ipx_internet.specs.Internet.{Internet, Place, IsInternet, ports_of, port_of}
use Rattle.ipx_internet.specs.Queue.{Delivery, Queued, deliveries_of, history_of, with_event, sends_at, queued, settled_one}
use Rattle.ipx_internet.specs.Rounds.{IsDelivery}
use Rattle.ipx_internet.specs.Run.{Step, Happens, Settles, AreHistories, Run, begun, forgotten, stepped, run_of}
use Rattle.ipx_internet.proofs.deliveries.QueueOfARun.{events, deliveries}
use Rattle.ipx_internet.proofs.deliveries.WaitsAfterDelivery.{there}
use Rattle.ipx_internet.proofs.lists.EachElement.{all_then, all-append, all-flat_map}
use Rattle.ipx_internet.proofs.packets.SentOnOrReply.{Layouts, IsOnward, not_onward, unsaid, said as said_for}
use Rattle.ipx_internet.proofs.places.OneReceiverOfANode.{ports_at, receives_is}
use Rattle.ipx_internet.proofs.records.KeptOrOffered.{OffersOf}
use Rattle.ipx_internet.proofs.rounds.OneRound.{each_delivery}
use Rattle.ipx_internet.proofs.trees.RunIsALog.{histories_more}
use Rattle.ipx_laws.specs.Gains.{IsGain, IsOfGains}
use Rattle.ipx_laws.specs.Gone.{most_ticks_gone}
use Rattle.ipx_laws.specs.Real.{IsReal, next, farther}
use Rattle.ipx_laws.specs.Tables.{AreReal}
use Rattle.ipx_laws.specs.Ups.{ups}
use Rattle.ipx_laws.proofs.gains.GainsSayReal.{IsSaid, introduces, port_up_says, heard_says}
use Rattle.ipx_laws.proofs.gains.OwnPacketsSayReal.{RealSaid, FineRip, FineHeard, IsOwn}
use Rattle.ipx_laws.proofs.records.RecordsGrowOld.{Aged, IsOldOffer, after_offers, at_last}
use Rattle.ipx_laws.proofs.ticks.EventOfOneRouter.{each_so}
use Rattle.ipx_laws.proofs.ticks.RealOrSoonEnded.{Reaches}

-- ---- ports that are up stay up

module _ (net : Internet) where
  event_keeps : (histories : List History) (router : ℕ) (event : Event) → is_stop event ≡ false → ((port : ℕ) → takes_down port event ≡ false) → (other j : ℕ)
      → is_up (ups net histories other) j ≡ true → is_up (ups net (with_event histories router event) other) j ≡ true
  event_keeps histories router event on untaken other j up = elim (cases_eq other router) [
    | inr off ↦
        subst (λ (h : History). is_up (ports_up (ports_of net other) h) j ≡ true)
        (sym (get_or-set_other histories router other (history_of histories router ++ event ∷ []) [] off)) up
    | inl same ↦
        subst (λ (k : ℕ). is_up (ups net (with_event histories router event) k) j ≡ true) (sym same)
        (own (subst (λ (k : ℕ). is_up (ups net histories k) j ≡ true) same up))
  ]
    where
      own : is_up (ups net histories router) j ≡ true → is_up (ups net (with_event histories router event) router) j ≡ true
      own here = elim (cases_lt router (length histories)) [
        | inl listed ↦
            subst (λ (h : History). is_up (ports_up (ports_of net router) h) j ≡ true)
            (sym (get_or-set_same histories router (history_of histories router ++ event ∷ []) [] listed))
            (up_stays (ports_of net router) (history_of histories router) event j on (untaken j) here)
        | inr past ↦
            let none : ups net histories router ≡ [] =
            ap (ports_up (ports_of net router)) (get_or_past histories router [] past) ∙ none_up (ports_of net router) [] refl in
            absurd (both_ways false refl (subst (λ (us : List ℕ). is_up us j ≡ true) none here))
      ]

  module _ (most_routes most_services : ℕ) where
    step_keeps : (run : Run) (step : Step) → IsOfGains net step → (other j : ℕ) → is_up (ups net run.histories other) j ≡ true
        → is_up (ups net (stepped net most_routes most_services run step).histories other) j ≡ true
    step_keeps run (Happens router Start) gain other j up = event_keeps run.histories router Start refl (λ port. refl) other j up
    step_keeps run (Happens router (PortUp number)) gain other j up = event_keeps run.histories router (PortUp number) refl (λ port. refl) other j up
    step_keeps run (Happens router Stop) gain other j up = absurd gain.1
    step_keeps run (Happens router Second) gain other j up = absurd gain.1
    step_keeps run (Happens router (Packet number bytes)) gain other j up = absurd gain.1
    step_keeps run (Happens router (PortDown number)) gain other j up = absurd gain.1
    step_keeps run Settles gain other j up =
        subst (λ (q : Queued). is_up (ups net q.histories other) j ≡ true) (sym (deliveries net most_routes most_services run))
        (by run.histories (map (λ w. w.delivery) run.waiting) up)
      where
        by : (histories : List History) (queue : List Delivery) → is_up (ups net histories other) j ≡ true
            → is_up (ups net (settled_one net most_routes most_services (record { histories = histories; queue = queue })).histories other) j ≡ true
        by histories [] here = here
        by histories (d ∷ queue) here = event_keeps histories d.to.router (Packet d.to.port d.bytes) refl (λ port. refl) other j here

    pub steps_keep : (run : Run) (steps : List Step) → AllByRecursion (IsOfGains net) steps → (other j : ℕ) → is_up (ups net run.histories other) j ≡ true
        → is_up (ups net (run_of net most_routes most_services run steps).histories other) j ≡ true
    steps_keep run [] all other j up = up
    steps_keep run (step ∷ steps) all other j up =
        steps_keep (stepped net most_routes most_services run step) steps all.1 other j (step_keeps run step all.0 other j up)

-- with more ports up what is real stays real
pub real_more : (net : Internet) (few more : ℕ → List ℕ) → ((router j : ℕ) → is_up (few router) j ≡ true → is_up (more router) j ≡ true)
    → {router : ℕ} {r : RouteOffer} → IsReal net few router r → IsReal net more router r
real_more net few more up {router} {r} (next from beside on apart taken) =
    next from beside (up from.router beside on) apart
    (record {
      other = taken.other;
      here = up router r.port taken.here;
      there = up from.router from.port taken.there;
      network = taken.network;
      wanted = taken.wanted;
      offer = taken.offer;
    })
real_more net few more up {router} {r} (farther from s apart taken near real) =
    farther from s apart
    (record {
      other = taken.other;
      here = up router r.port taken.here;
      there = up from.router from.port taken.there;
      network = taken.network;
      wanted = taken.wanted;
      offer = taken.offer;
    }) near (real_more net few more up real)

-- what holds of the offers of records holds of each record's
of_offers : {O : Type 0} (P : O → Type 0) (xs : List (Held O)) → AllByRecursion P (offers xs) → AllByRecursion (λ h. P h.offer) xs
of_offers P [] all = tt
of_offers P (x ∷ xs) all = (all.0, of_offers P xs all.1)

module _ (net : Internet) (laws : Layouts) (is : IsInternet net) (most_routes most_services : ℕ) (up : ℕ → List ℕ) where
  -- the routes of a router are real
  abbrev pub RealAt : ℕ → List (Fact RouteOffer) → Type 0
  RealAt router facts =
      Aged route_reading network_order network_total most_routes (map (λ p. p.route_share) (ports_of net router)) (λ r. r.hops) (λ r. refl) 0 0 (IsReal net up router)
      most_ticks_gone facts

  held_real : (router : ℕ) (history : History) → RealAt router (route_facts (ports_of net router) history)
      → AllByRecursion (IsReal net up router) (offers (routes_held (ports_of net router) most_routes history))
  held_real router history aged =
      at_last route_reading network_order network_total most_routes (map (λ p. p.route_share) (ports_of net router)) (λ r. r.hops) (λ r. refl) 0 0 (IsReal net up router)
      most_ticks_gone (route_facts (ports_of net router) history) (omega arith) aged

  pub real_held : (router : ℕ) (history : History) → AllByRecursion (IsReal net up router) (offers (routes_held (ports_of net router) most_routes history))
      → RealAt router (route_facts (ports_of net router) history)
  real_held router history real =
      all_then (λ h. IsReal net up router h.offer) (λ h. IsReal net up router h.offer ⊎ (most_ticks_gone ≤ 0 + (0 + lifetime) * h.offer.hops + h.age)) (λ h fine. inl fine) _
      (all-from_order (route_rules (ports_of net router) most_routes).by_key
      (rules_total route_reading network_order network_total most_routes (map (λ p. p.route_share) (ports_of net router)))
      (λ h. IsReal net up router h.offer) _ (of_offers (IsReal net up router) (routes_held (ports_of net router) most_routes history) real))

  -- what waits was sent by a port that is up, and says what is real
  pub record Speaks (d : Delivery) : Type 0 where
    pub delivery : IsDelivery net d
    pub from : Place
    pub reaches : Reaches net up from d.to
    pub own : IsOwn net up from d.bytes

  pub record Gaining (q : Queued) : Type 0 where
    pub are : AreHistories net q.histories
    pub routes : (router : ℕ) → router < length net → RealAt router (route_facts (ports_of net router) (history_of q.histories router))
    pub waiting : AllByRecursion Speaks q.queue

  -- no port is up that isn't in the end
  abbrev pub Within : List History → Type 0
  Within histories = (router j : ℕ) → is_up (ups net histories router) j ≡ true → is_up (up router) j ≡ true

  -- ---- one event of a router

  module _ (histories : List History) (rest : List Delivery) (are : AreHistories net histories)
      (routes : (router : ℕ) → router < length net → RealAt router (route_facts (ports_of net router) (history_of histories router)))
      (waiting : AllByRecursion Speaks rest) (y : ℕ) (event : Event) (inside : y < length net) (on : IsOnPort (ports_of net y) event) (of_bytes : IsOfBytes event)
      (within : Within histories) (within_now : Within (with_event histories y event)) where
    abbrev ports : List Port
    ports = ports_of net y

    abbrev past : History
    past = history_of histories y

    abbrev now : History
    now = past ++ event ∷ []

    listed : y < length histories
    listed = let each = are.each in omega (arith, each, inside)

    more_now : (j : ℕ) → is_up (ports_up ports now) j ≡ true → is_up (up y) j ≡ true
    more_now j here =
        within_now y j (subst (λ (h : History). is_up (ports_up ports h) j ≡ true) (sym (get_or-set_same histories y now [] listed)) here)

    event_gains : RealAt y (route_facts ports now) → AllByRecursion (IsSaid net laws is up most_routes most_services y) (sends_at net most_routes most_services histories y event)
        → Gaining (queued net most_routes most_services (record { histories = histories; queue = rest }) y event)
    event_gains real said = record {
      are = histories_more net histories y event are inside on of_bytes;
      routes = λ other there_too.
          each_so (λ k h. k < length net → RealAt k (route_facts (ports_of net k) h)) histories y event listed other (λ same here. real) (λ off here. routes other here) there_too;
      waiting =
          all-append Speaks rest (flat_map (deliveries_of net y) (sends_at net most_routes most_services histories y event)) waiting
          (each_delivery net most_routes most_services Speaks (λ s. IsBytes s.bytes × IsSaid net laws is up most_routes most_services y s) y
          (λ s to both place received.
          let from : Place = record { router = y; port = s.port } in
          let got = receives_is net from s.link to received in
          record {
            delivery = record { place = place; bytes = both.0 };
            from = from;
            reaches = record { other = got.other; network = got.network; on = both.1.1 };
            own = both.1.0;
          }) (sends_at net most_routes most_services histories y event)
          (all_both (λ s. IsBytes s.bytes) (IsSaid net laws is up most_routes most_services y) (sends_at net most_routes most_services histories y event)
          (laws.bytes ports most_routes most_services past event (ports_at net is y)
          (all-append (IsOnPort ports) past (event ∷ []) (are.on_ports y) (on, tt)) (all-append IsOfBytes past (event ∷ []) (are.of_bytes y) (of_bytes, tt))) said));
    }

    real_past : AllByRecursion (IsReal net up y) (offers (routes_held ports most_routes past))
    real_past = held_real y past (routes y inside)

    -- where it means nothing for the table
    kept : route_facts_of ports past event ≡ [] → RealAt y (route_facts ports now)
    kept none =
        let facts = route_facts ports past in
        let same : route_facts ports now ≡ facts = facts_from-more (route_facts_of ports) [] past event ∙ ap (λ fs. facts ++ fs) none ∙ append-nil facts in
        subst (λ (fs : List (Fact RouteOffer)). RealAt y fs) (sym same) (routes y inside)

  -- ---- a start, and a port that comes up

  all_up : (y : ℕ) (us : List ℕ) (f : ℕ → List Sent) → ((j : ℕ) → is_up us j ≡ true → AllByRecursion (IsSaid net laws is up most_routes most_services y) (f j))
      → AllByRecursion (IsSaid net laws is up most_routes most_services y) (flat_map f us)
  all_up y us f step = all-flat_map (λ j. is_up us j ≡ true) (IsSaid net laws is up most_routes most_services y) f step us (members us)

  module _ (q : Queued) (gaining : Gaining q) (y : ℕ) (inside : y < length net) (within : Within q.histories) where
    module _ (within_now : Within (with_event q.histories y Start)) where
      abbrev started : History
      started = history_of q.histories y ++ Start ∷ []

      introduced : AllByRecursion (IsSaid net laws is up most_routes most_services y)
          (flat_map (introduction (ports_of net y) (ports_up (ports_of net y) started) [] []) (ports_up (ports_of net y) started))
      introduced =
          all_up y (ports_up (ports_of net y) started) (introduction (ports_of net y) (ports_up (ports_of net y) started) [] [])
          (λ j here. introduces net laws is up most_routes most_services y (history_of q.histories y) (gaining.are.of_bytes y) Start tt (within y)
          (more_now q.histories q.queue gaining.are gaining.routes gaining.waiting y Start inside tt tt within within_now)
          (real_past q.histories q.queue gaining.are gaining.routes gaining.waiting y Start inside tt tt within within_now)
          (held_real y started (kept q.histories q.queue gaining.are gaining.routes gaining.waiting y Start inside tt tt within within_now refl))
          [] [] tt tt tt j here)

      sent_at_start : (runs : Bool) → AllByRecursion (IsSaid net laws is up most_routes most_services y)
          (if runs then [] else flat_map (introduction (ports_of net y) (ports_up (ports_of net y) started) [] []) (ports_up (ports_of net y) started))
      sent_at_start true = tt
      sent_at_start false = introduced

      start_gains : Gaining (queued net most_routes most_services q y Start)
      start_gains =
          event_gains q.histories q.queue gaining.are gaining.routes gaining.waiting y Start inside tt tt within within_now
          (kept q.histories q.queue gaining.are gaining.routes gaining.waiting y Start inside tt tt within within_now refl)
          (sent_at_start (running (history_of q.histories y)))

    module _ (number : ℕ) (on : number < length (ports_of net y)) (within_now : Within (with_event q.histories y (PortUp number))) where
      abbrev event : Event
      event = PortUp number

      abbrev before_up : List ℕ
      before_up = ports_up (ports_of net y) (history_of q.histories y)

      abbrev after_up : Holding
      after_up = holding (ports_of net y) most_routes most_services (history_of q.histories y ++ event ∷ [])

      kept_routes : RealAt y (route_facts (ports_of net y) (history_of q.histories y ++ event ∷ []))
      kept_routes = kept q.histories q.queue gaining.are gaining.routes gaining.waiting y event inside on tt within within_now refl

      sent_up : (comes : Bool) → (running (history_of q.histories y) && not (is_up before_up number)) ≡ comes
          → AllByRecursion (IsSaid net laws is up most_routes most_services y) (if comes then flat_map (port_up_on (ports_of net y) after_up number) after_up.up else [])
      sent_up false e = tt
      sent_up true e =
          let runs = (and_parts (running (history_of q.histories y)) (not (is_up before_up number)) e).0 in
          all_up y after_up.up (port_up_on (ports_of net y) after_up number)
          (port_up_says net laws is up most_routes most_services y (history_of q.histories y) (gaining.are.of_bytes y) event tt (within y)
          (more_now q.histories q.queue gaining.are gaining.routes gaining.waiting y event inside on tt within within_now)
          (real_past q.histories q.queue gaining.are gaining.routes gaining.waiting y event inside on tt within within_now)
          (held_real y (history_of q.histories y ++ event ∷ []) kept_routes)
          number on (port_comes_up (ports_of net y) (history_of q.histories y) number on runs))

      port_up_gains : Gaining (queued net most_routes most_services q y event)
      port_up_gains =
          event_gains q.histories q.queue gaining.are gaining.routes gaining.waiting y event inside on tt within within_now kept_routes
          (sent_up (running (history_of q.histories y) && not (is_up before_up number)) refl)

  -- ---- a delivery

  module _ (histories : List History) (d : Delivery) (rest : List Delivery) (gaining : Gaining (record { histories = histories; queue = d ∷ rest }))
      (within : Within histories) (within_now : Within (with_event histories d.to.router (Packet d.to.port d.bytes))) where
    abbrev x : ℕ
    x = d.to.router

    abbrev ports_x : List Port
    ports_x = ports_of net x

    abbrev history : History
    history = history_of histories x

    abbrev packet : Event
    packet = Packet d.to.port d.bytes

    abbrev first : Speaks d
    first = gaining.waiting.0

    abbrev learnt : History
    learnt = history ++ packet ∷ []

    here : x < length net
    here = there net laws is most_routes most_services histories gaining.are d first.delivery

    near_in : (p : Parts) (m : Heard) → heard_near (port_at ports_x d.to.port) p ≡ Some m → heard_in p ≡ Some m
    near_in p m e = grind arith

    -- what is heard is fine
    fine : (m : Heard) → heard_after ports_x history d.to.port d.bytes ≡ Some m → FineHeard net up first.from m
    fine m e =
        let came = came_in ports_x (ports_up ports_x history) d.to.port (running history) d.bytes m e in
        first.own.fine m (subst (λ (p : Parts). heard_in p ≡ Some m) (one_read (packet_of d.bytes) came.packet first.own.packet came.read first.own.read)
        (near_in came.packet m came.near))

    on_port : (m : Heard) → heard_after ports_x history d.to.port d.bytes ≡ Some m → is_up (ports_up ports_x history) d.to.port ≡ true
    on_port m e = heard_up ports_x (ports_up ports_x history) d.to.port (running history) d.bytes m e

    abbrev OldOffer : RouteOffer → Type 0
    OldOffer =
        IsOldOffer route_reading network_order network_total most_routes (map (λ p. p.route_share) ports_x) (λ r. r.hops) (λ r. refl) 0 0 (IsReal net up x) most_ticks_gone

    entries_old : is_up (up x) d.to.port ≡ true → (node : Node) → node ≡ (port_of net first.from).node → (es : List RipEntry)
        → AllByRecursion (RealSaid net up first.from) es → AllByRecursion (OffersOf OldOffer) (routes_offered ports_x d.to.port node es)
    entries_old on node same [] all = tt
    entries_old on node same (e ∷ es) all = grind (arith, entries_old on node same es all.1)

    rip_old : is_up (up x) d.to.port ≡ true → (source : Address) (operation : Operation) (es : List RipEntry)
        → FineRip net up first.from source operation es
        → AllByRecursion (OffersOf OldOffer) (elim operation [ Response ↦ routes_offered ports_x d.to.port source.node es | Request ↦ [] ])
    rip_old on source Response es fine_es = entries_old on source.node fine_es.0 es fine_es.1
    rip_old on source Request es fine_es = tt

    heard_old : (o : Option Heard) → heard_after ports_x history d.to.port d.bytes ≡ o → AllByRecursion (OffersOf OldOffer) (routes_heard ports_x d.to.port o)
    heard_old None e = tt
    heard_old (Some (HeardRip source rip)) e =
        rip_old (within x d.to.port (on_port (HeardRip source rip) e)) source rip.operation rip.entries (fine (HeardRip source rip) e)
    heard_old (Some (HeardSap source sap)) e = tt

    real_learnt : RealAt x (route_facts ports_x learnt)
    real_learnt =
        subst (λ (fs : List (Fact RouteOffer)). RealAt x fs) (sym (facts_from-more (route_facts_of ports_x) [] history packet))
        (after_offers route_reading network_order network_total most_routes (map (λ p. p.route_share) ports_x) (λ r. r.hops) (λ r. refl) 0 0 (IsReal net up x)
        most_ticks_gone (routes_heard ports_x d.to.port (heard_after ports_x history d.to.port d.bytes)) (route_facts ports_x history)
        (heard_old (heard_after ports_x history d.to.port d.bytes) refl) (gaining.routes x here))

    abbrev sent : List Sent
    sent = sends_at net most_routes most_services histories x packet

    delivery_said : AllByRecursion (IsSaid net laws is up most_routes most_services x) sent
    delivery_said = by (heard_after ports_x history d.to.port d.bytes) refl
      where
        by : (o : Option Heard) → heard_after ports_x history d.to.port d.bytes ≡ o → AllByRecursion (IsSaid net laws is up most_routes most_services x) sent
        by None e =
            all_then (λ s. IsOnward (port_at ports_x d.to.port) d.bytes s.bytes) (IsSaid net laws is up most_routes most_services x)
            (λ s onward. absurd (not_onward (port_at ports_x d.to.port) d.bytes s.bytes first.own.packet first.own.read first.own.plain
            (first.own.home ∙ sym first.reaches.network) onward)) sent
            (unsaid laws ports_x (ports_at net is x) most_routes most_services history (gaining.are.on_ports x) (gaining.are.of_bytes x) d.to.port d.bytes
            first.delivery.place first.delivery.bytes e)
        by (Some m) e =
            let placed = (heard_is laws.readings ports_x (ports_up ports_x history) d.to.port d.bytes first.delivery.bytes (running history) m e).source in
            let all = heard_says net laws is up most_routes most_services x history (gaining.are.of_bytes x) packet first.delivery.bytes (within x)
            (more_now histories rest gaining.are gaining.routes gaining.waiting.1 x packet here first.delivery.place first.delivery.bytes within within_now)
            (held_real x history (gaining.routes x here)) (held_real x learnt real_learnt) d.to.port (on_port m e) first.from m placed (fine m e) in
            elim (said_for laws ports_x (ports_at net is x) most_routes most_services history (gaining.are.on_ports x) (gaining.are.of_bytes x) d.to.port d.bytes
            first.delivery.place first.delivery.bytes m e) [
              | inl none ↦ subst (λ (ss : List Sent). AllByRecursion (IsSaid net laws is up most_routes most_services x) ss) (sym none) tt
              | inr these ↦ subst (λ (ss : List Sent). AllByRecursion (IsSaid net laws is up most_routes most_services x) ss) (sym these) all
            ]

    delivery_gains : Gaining (queued net most_routes most_services (record { histories = histories; queue = rest }) x packet)
    delivery_gains =
        event_gains histories rest gaining.are gaining.routes gaining.waiting.1 x packet here first.delivery.place first.delivery.bytes within within_now
        real_learnt delivery_said

  -- ---- steps

  settles_gains : (histories : List History) (queue : List Delivery) → Gaining (record { histories = histories; queue = queue }) → Within histories
      → Within (settled_one net most_routes most_services (record { histories = histories; queue = queue })).histories
      → Gaining (settled_one net most_routes most_services (record { histories = histories; queue = queue }))
  settles_gains histories [] gaining within within_now = gaining
  settles_gains histories (d ∷ queue) gaining within within_now = delivery_gains histories d queue gaining within within_now

  happens_gains : (q : Queued) (router : ℕ) (event : Event) → router < length net → IsGain net router event → Gaining q → Within q.histories
      → Within (with_event q.histories router event) → Gaining (queued net most_routes most_services q router event)
  happens_gains q router Start inside gain gaining within within_now = start_gains q gaining router inside within within_now
  happens_gains q router (PortUp number) inside gain gaining within within_now = port_up_gains q gaining router inside within number gain within_now
  happens_gains q router Stop inside gain gaining within within_now = absurd gain
  happens_gains q router Second inside gain gaining within within_now = absurd gain
  happens_gains q router (Packet number bytes) inside gain gaining within within_now = absurd gain
  happens_gains q router (PortDown number) inside gain gaining within within_now = absurd gain

  step_gains : (run : Run) (step : Step) → IsOfGains net step → Gaining (forgotten run) → Within run.histories
      → Within (stepped net most_routes most_services run step).histories → Gaining (forgotten (stepped net most_routes most_services run step))
  step_gains run (Happens router event) gain gaining within within_now =
      subst (λ (q : Queued). Gaining q) (sym (events net most_routes most_services run router event None))
      (happens_gains (forgotten run) router event gain.0 gain.1 gaining within within_now)
  step_gains run Settles gain gaining within within_now =
      let same = deliveries net most_routes most_services run in
      subst (λ (q : Queued). Gaining q) (sym same)
      (settles_gains run.histories (map (λ w. w.delivery) run.waiting) gaining within (subst (λ (q : Queued). Within q.histories) same within_now))

  pub steps_gain : (run : Run) (steps : List Step) → AllByRecursion (IsOfGains net) steps → Gaining (forgotten run)
      → Within (run_of net most_routes most_services run steps).histories → Gaining (forgotten (run_of net most_routes most_services run steps))
  steps_gain run [] all gaining sure = gaining
  steps_gain run (step ∷ steps) all gaining sure =
      let next_run = stepped net most_routes most_services run step in
      let then_within : Within next_run.histories = λ router j here. sure router j (steps_keep net most_routes most_services next_run steps all.1 router j here) in
      steps_gain next_run steps all.1
      (step_gains run step all.0 gaining (λ router j here. then_within router j (step_keeps net most_routes most_services run step all.0 router j here)) then_within) sure

-- ---- from the first

module _ (net : Internet) (laws : Layouts) (is : IsInternet net) (most_routes most_services : ℕ) (histories : List History) (steps : List Step)
    (are : AreHistories net histories) (real : AreReal net most_routes histories (ups net histories)) (gains : AllByRecursion (IsOfGains net) steps) where
  abbrev pub after : Run
  after = run_of net most_routes most_services (begun histories) steps

  pub gained : Gaining net laws is most_routes most_services (ups net after.histories) (forgotten after)
  gained =
      steps_gain net laws is most_routes most_services (ups net after.histories) (begun histories) steps gains
      (record {
        are = are;
        routes = λ router inside.
            real_held net laws is most_routes most_services (ups net after.histories) router (history_of histories router)
            (all_then (IsReal net (ups net histories) router) (IsReal net (ups net after.histories) router)
            (λ r here. real_more net (ups net histories) (ups net after.histories)
            (λ other j up. steps_keep net most_routes most_services (begun histories) steps gains other j up) here)
            (offers (routes_held (ports_of net router) most_routes (history_of histories router))) (real router inside));
        waiting = tt;
      })
      (λ router j here. here)

  pub all_real : AreReal net most_routes after.histories (ups net after.histories)
  all_real router inside =
      held_real net laws is most_routes most_services (ups net after.histories) router (history_of after.histories router) (gained.routes router inside)
