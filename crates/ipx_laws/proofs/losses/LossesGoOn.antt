-- While nothing happens but losses and deliveries: each route that is held came of what its neighbour advertises still, or the neighbour's
-- word that it isn't reached waits, or the network between them is lost.
use Rattle.std.proofs.Common.{◌≡◌, ◌≢◌, refl, sym, ap, ◌∙◌, subst, ◌⊎◌, ℕ, ◌<◌, true, false, List, [], ◌∷◌, ◌++◌, length, map, flat_map, Some, None, inl, inr, arith, is_eq, get_or-set_same, get_or-set_other, rules}
use Rattle.std.specs.List.{AllByRecursion}
use Rattle.std.proofs.lemmas.Bool.{cases_Bool, cases_eq, both_ways}
use Rattle.ipx_table.specs.Facts.{Fact}
use Rattle.ipx_wire.specs.Piece.{IsBytes}
use Rattle.ipx_wire.specs.declared.rip.Operation.TheVariants.{Response}
use Rattle.ipx_router.specs.Facts.{route_facts, route_facts_of, routes_offered, routes_heard, heard_after}
use Rattle.ipx_router.specs.Heard.{Heard, HeardRip}
use Rattle.ipx_router.specs.History.{Event, History, Start, Stop, Second, Packet, PortDown, PortUp, IsOnPort, IsOfBytes, running, ports_up}
use Rattle.ipx_router.specs.Port.{Port, port_at, is_up, own_address, everyone, takes_no_route}
use Rattle.ipx_router.specs.Relays.{Sent}
use Rattle.ipx_router.specs.Routes.{network_order}
use Rattle.ipx_router.specs.declared.route_offer.RouteOffer.{RouteOffer}
use Rattle.ipx_router.proofs.histories.OneEventMore.{none_up}
use Rattle.ipx_router.proofs.lists.EachElement.{all_both}
use Rattle.ipx_router.proofs.tables.HeldCameByPortsUp.{held_routes_up}
use Rattle.ipx_router.proofs.tables.OffersOfAMessage.{facts_from-more}
use Rattle.ipx_internet.specs.Internet.{Internet, Place, IsInternet, IsPlace, ports_of, port_of, network_of}
use Rattle.ipx_internet.specs.Queue.{Delivery, Queued, deliveries_of, history_of, sends_at, queued, settled_one}
use Rattle.ipx_internet.specs.Rounds.{IsDelivery}
use Rattle.ipx_internet.specs.Run.{Step, Happens, Settles, AreHistories, Run, forgotten, stepped, run_of}
use Rattle.ipx_internet.proofs.deliveries.QueueOfARun.{events, deliveries}
use Rattle.ipx_internet.proofs.deliveries.WaitsAfterDelivery.{there}
use Rattle.ipx_internet.proofs.lists.EachElement.{all-append}
use Rattle.ipx_internet.proofs.lists.FoundInAList.{nothing}
use Rattle.ipx_internet.proofs.packets.PagesReadAgain.{IsRipPage}
use Rattle.ipx_internet.proofs.packets.ResponsesAskNothing.{answering}
use Rattle.ipx_internet.proofs.packets.SentOnOrReply.{Layouts, IsNewsSent}
use Rattle.ipx_internet.proofs.places.OneReceiverOfANode.{ports_at, port_is, receives_is}
use Rattle.ipx_internet.proofs.rounds.OneRound.{each_delivery}
use Rattle.ipx_internet.proofs.rounds.RepliesTellChanges.{heard_says, heard_from, news_told, tells_says}
use Rattle.ipx_internet.proofs.rounds.SentOnRunsOut.{Calm}
use Rattle.ipx_internet.proofs.trees.RunIsALog.{histories_more}
use Rattle.ipx_laws.specs.Gone.{IsGone}
use Rattle.ipx_laws.specs.Losses.{IsLoss, IsOfLosses}
use Rattle.ipx_laws.specs.Tables.{routes_of}
use Rattle.ipx_laws.proofs.lists.SomeElement.{AnyIs, found_with, any_in_front, any_behind}
use Rattle.ipx_laws.proofs.losses.EachLossIsSaid.{Says, IsLosing, AnyService, AnyEntry, stop_loses, port_down_loses, packet_loses}
use Rattle.ipx_laws.proofs.losses.HeldFromOthers.{IsFromOther, held_from_others}
use Rattle.ipx_laws.proofs.losses.TablesShrink.{route_at, IsDead, after, source_ends}
use Rattle.ipx_laws.proofs.losses.WordsThatWait.{IsWordFor, word_waits}
use Rattle.ipx_laws.proofs.packets.PagesAreHeard.{heard_page}

module _ (net : Internet) (laws : Layouts) (is : IsInternet net) (most_routes most_services : ℕ) (last : List History) where
  -- what waits says that nothing is reached
  pub record Waits (d : Delivery) : Type 0 where
    pub delivery : IsDelivery net d
    pub from : Place
    pub network : network_of net d.to ≡ network_of net from
    pub news : IsNewsSent IsDead AnyService (port_of net from) d.bytes

  -- where a route of a router comes from
  pub record Stem (q : Queued) (router : ℕ) (r : RouteOffer) : Type 0 where
    pub from : Place
    pub other : router ≢ from.router
    pub place : IsPlace net from
    pub here : r.port < length (ports_of net router)
    pub network : network_of net (record { router = router; port = r.port }) ≡ network_of net from
    pub node : r.node ≡ (port_of net from).node
    pub wanted : takes_no_route (ports_of net router) r.network ≡ false
    pub says : Says (ports_of net from.router) most_routes (history_of q.histories from.router) from.port r
        ⊎ (AnyIs (IsWordFor net r.network IsDead from (record { router = router; port = r.port })) q.queue ⊎ IsGone net last (network_of net from))

  abbrev pub Holds : Queued → ℕ → RouteOffer → Type 0
  Holds q router r = route_at r.network (routes_of net most_routes q.histories router) ≡ Some r

  pub record Losing (q : Queued) : Type 0 where
    pub are : AreHistories net q.histories
    pub waiting : AllByRecursion Waits q.queue
    pub stems : (router : ℕ) → router < length net → (r : RouteOffer) → Holds q router r → Stem q router r

  -- ---- one event of a router

  module _ (histories : List History) (queue rest : List Delivery) (losing : Losing (record { histories = histories; queue = queue })) (y : ℕ) (event : Event)
      (inside : y < length net) (on : IsOnPort (ports_of net y) event) (of_bytes : IsOfBytes event) (still : AllByRecursion Waits rest)
      (lost : IsLosing net laws last (ports_of net y) (ports_at net is y) most_routes most_services (history_of histories y) (losing.are.of_bytes y) event) where
    abbrev old : Queued
    old = record { histories = histories; queue = queue }

    abbrev sent : List Sent
    sent = sends_at net most_routes most_services histories y event

    abbrev new : List Delivery
    new = flat_map (deliveries_of net y) sent

    abbrev next : Queued
    next = queued net most_routes most_services (record { histories = histories; queue = rest }) y event

    listed : y < length histories
    listed = let each = losing.are.each in omega (arith, each, inside)

    same_here : history_of next.histories y ≡ history_of histories y ++ event ∷ []
    same_here = get_or-set_same histories y (history_of histories y ++ event ∷ []) [] listed

    same_there : (other : ℕ) → other ≢ y → history_of next.histories other ≡ history_of histories other
    same_there other off = get_or-set_other histories y other (history_of histories y ++ event ∷ []) [] off

    abbrev offers_after : ℕ → History → List RouteOffer
    offers_after k h = after (ports_of net k) most_routes (route_facts (ports_of net k) h)

    -- what is held was held
    was_held : (router : ℕ) (r : RouteOffer) → Holds next router r → Holds old router r
    was_held router r held = elim (cases_eq router y) [
      | inr off ↦
          subst (λ (h : History). route_at r.network (offers_after router h) ≡ Some r) (same_there router off) held
      | inl same ↦ subst (λ (k : ℕ). Holds old k r) (sym same) (own (subst (λ (k : ℕ). Holds next k r) same held))
    ]
      where
        own : Holds next y r → Holds old y r
        own held_here =
            let now = subst (λ (h : History). route_at r.network (offers_after y h) ≡ Some r) same_here held_here in
            elim (lost.shrinks.each r.network) [
              | inl same ↦ sym same ∙ now
              | inr none ↦ nothing (sym none ∙ now)
            ]

    waiting_now : AllByRecursion Waits next.queue
    waiting_now =
        all-append Waits rest new still
        (each_delivery net most_routes most_services Waits (λ s. IsBytes s.bytes × IsNewsSent IsDead AnyService (port_at (ports_of net y) s.port) s.bytes) y
        (λ s to both place received.
        let from : Place = record { router = y; port = s.port } in
        record {
          delivery = record { place = place; bytes = both.0 };
          from = from;
          network = (receives_is net from s.link to received).network;
          news = both.1;
        }) sent
        (all_both (λ s. IsBytes s.bytes) (λ s. IsNewsSent IsDead AnyService (port_at (ports_of net y) s.port) s.bytes) sent
        (laws.bytes (ports_of net y) most_routes most_services (history_of histories y) event (ports_at net is y)
        (all-append (IsOnPort (ports_of net y)) (history_of histories y) (event ∷ []) (losing.are.on_ports y) (on, tt))
        (all-append IsOfBytes (history_of histories y) (event ∷ []) (losing.are.of_bytes y) (of_bytes, tt)))
        lost.dead_news))

    module _ (left : (router : ℕ) → router < length net → (r : RouteOffer) → (stem : Stem old router r) → Holds next router r
        → AnyIs (IsWordFor net r.network IsDead stem.from (record { router = router; port = r.port })) queue
        → AnyIs (IsWordFor net r.network IsDead stem.from (record { router = router; port = r.port })) rest) where
      abbrev Outcome : ℕ → RouteOffer → Place → Type 0
      Outcome router r from =
          Says (ports_of net from.router) most_routes (history_of next.histories from.router) from.port r
          ⊎ (AnyIs (IsWordFor net r.network IsDead from (record { router = router; port = r.port })) next.queue ⊎ IsGone net last (network_of net from))

      stem_now : (router : ℕ) → router < length net → (r : RouteOffer) → Holds next router r → Stem next router r
      stem_now router within r held =
          let stem = losing.stems router within r (was_held router r held) in
          record {
            from = stem.from;
            other = stem.other;
            place = stem.place;
            here = stem.here;
            network = stem.network;
            node = stem.node;
            wanted = stem.wanted;
            says = by stem stem.says;
          }
        where
          by : (stem : Stem old router r)
              → Says (ports_of net stem.from.router) most_routes (history_of histories stem.from.router) stem.from.port r
              ⊎ (AnyIs (IsWordFor net r.network IsDead stem.from (record { router = router; port = r.port })) queue ⊎ IsGone net last (network_of net stem.from))
              → Says (ports_of net stem.from.router) most_routes (history_of next.histories stem.from.router) stem.from.port r
              ⊎ (AnyIs (IsWordFor net r.network IsDead stem.from (record { router = router; port = r.port })) next.queue ⊎ IsGone net last (network_of net stem.from))
          by stem (inr (inr gone)) = inr (inr gone)
          by stem (inr (inl waits)) =
              inr (inl (any_in_front (IsWordFor net r.network IsDead stem.from (record { router = router; port = r.port })) rest new (left router within r stem held waits)))
          by stem (inl says) = elim (cases_eq stem.from.router y) [
            | inr off ↦
                inl (subst (λ (h : History). Says (ports_of net stem.from.router) most_routes h stem.from.port r) (sym (same_there stem.from.router off)) says)
            | inl same ↦ moved stem.from same stem.other stem.network stem.here says
          ]
            where
              at_y : (port : ℕ) → router ≢ y → network_of net (record { router = router; port = r.port }) ≡ network_of net (record { router = y; port = port })
                  → r.port < length (ports_of net router) → Says (ports_of net y) most_routes (history_of histories y) port r → Outcome router r (record { router = y; port = port })
              at_y port other network here said_before = elim (lost.said port r said_before) [
                | inl still_says ↦ inl (subst (λ (h : History). Says (ports_of net y) most_routes h port r) (sym same_here) still_says)
                | inr (inl tells) ↦
                    let from : Place = record { router = y; port = port } in
                    let to : Place = record { router = router; port = r.port } in
                    inr (inl (any_behind (IsWordFor net r.network IsDead from to) rest new
                    (word_waits net r.network IsDead from to other here network sent tells)))
                | inr (inr gone) ↦ inr (inr gone)
              ]

              moved : (from : Place) → from.router ≡ y → router ≢ from.router → network_of net (record { router = router; port = r.port }) ≡ network_of net from
                  → r.port < length (ports_of net router) → Says (ports_of net from.router) most_routes (history_of histories from.router) from.port r → Outcome router r from
              moved from same other network here said_before =
                  let is_from : record { router = y; port = from.port } ≡ from = ap (λ k. record { router = k; port = from.port }) (sym same) in
                  subst (Outcome router r) is_from
                  (at_y from.port (λ e. other (e ∙ sym same)) (network ∙ ap (network_of net) (sym is_from)) here
                  (subst (λ (k : ℕ). Says (ports_of net k) most_routes (history_of histories k) from.port r) same said_before))

      pub event_loses : Losing next
      event_loses = search (rules, histories_more, waiting_now, stem_now)

  -- ---- a delivery

  -- a route isn't held any more where its source says that its network isn't reached
  module _ (router number : ℕ) (bytes : List ℕ) (history : History) (r : RouteOffer) (from : Place) (place : IsPlace net from)
      (apart : (port_of net from).node ≢ (port_at (ports_of net router) number).node)
      (one_network : network_of net (record { router = router; port = number }) ≡ network_of net from)
      (port : r.port ≡ number) (node : r.node ≡ (port_of net from).node) (wanted : takes_no_route (ports_of net router) r.network ≡ false)
      (on : is_up (ports_up (ports_of net router) history) number ≡ true)
      (page : IsRipPage IsDead (own_address (port_of net from)) (everyone (port_of net from)) bytes) (has : AnyIs (λ e. e.network ≡ r.network) page.page) where
    abbrev ports : List Port
    ports = ports_of net router

    abbrev told_rip : Heard
    told_rip = HeardRip (own_address (port_of net from)) (record { operation = Response; entries = page.page })

    runs : running history ≡ true
    runs = elim (cases_Bool (running history)) [
      | inl yes_runs ↦ yes_runs
      | inr stopped ↦ absurd (both_ways false refl (subst (λ (us : List ℕ). is_up us number ≡ true) (none_up ports history stopped) on))
    ]

    heard_it : heard_after ports history number bytes ≡ Some told_rip
    heard_it = search (rules, runs, heard_page, port_is, IsDead)

    source_ended : route_at r.network (after ports most_routes (route_facts ports (history ++ Packet number bytes ∷ []))) ≡ Some r → ⊥
    source_ended held =
        let facts = route_facts ports history in
        let later : route_facts ports (history ++ Packet number bytes ∷ []) ≡ facts ++ routes_offered ports number (port_of net from).node page.page =
        facts_from-more (route_facts_of ports) [] history (Packet number bytes) ∙ ap (λ o. facts ++ routes_heard ports number o) heard_it in
        source_ends ports most_routes number (port_of net from).node r wanted port node page.page facts page.each has
        (subst (λ (fs : List (Fact RouteOffer)). route_at r.network (after ports most_routes fs) ≡ Some r) later held)

  module _ (histories : List History) (d : Delivery) (rest : List Delivery) (losing : Losing (record { histories = histories; queue = d ∷ rest })) where
    abbrev was : Queued
    was = record { histories = histories; queue = d ∷ rest }

    abbrev event : Event
    event = Packet d.to.port d.bytes

    abbrev becomes : Queued
    becomes = queued net most_routes most_services (record { histories = histories; queue = rest }) d.to.router event

    first : Waits d
    first = losing.waiting.0

    calm : Calm net laws is most_routes most_services d
    calm = grind arith

    inside : d.to.router < length net
    inside = there net laws is most_routes most_services histories losing.are d first.delivery

    loses : IsLosing net laws last (ports_of net d.to.router) (ports_at net is d.to.router) most_routes most_services (history_of histories d.to.router)
        (losing.are.of_bytes d.to.router) event
    loses =
        packet_loses net laws last (ports_of net d.to.router) (ports_at net is d.to.router) most_routes most_services (history_of histories d.to.router)
        (losing.are.of_bytes d.to.router) (losing.are.on_ports d.to.router) d.to.port d.bytes first.delivery.place first.delivery.bytes calm.1
        (heard_says net laws is most_routes most_services histories losing.are d calm IsDead AnyEntry
        (tells_says IsDead AnyService IsDead AnyEntry (λ e dead. dead) (λ s any. tt) d.bytes
        (news_told IsDead AnyService (port_of net first.from) d.bytes first.news).tells))
        (λ m e. answering calm.1.packet calm.1.answers m (heard_from net laws is most_routes most_services histories losing.are d calm m e))

    -- the word that is handed out isn't for a route that stays
    not_for : (router : ℕ) → router < length net → (r : RouteOffer) (stem : Stem was router r) → Holds becomes router r
        → IsWordFor net r.network IsDead stem.from (record { router = router; port = r.port }) d → ⊥
    not_for router within r stem held word =
        let same : d.to.router ≡ router = ap (λ (p : Place). p.router) word.at in
        let port : r.port ≡ d.to.port = sym (ap (λ (p : Place). p.port) word.at) in
        let listed : d.to.router < length histories = let each = losing.are.each in let i = inside in omega (arith, each, i) in
        let now : history_of becomes.histories router ≡ history_of histories router ++ event ∷ [] =
        subst (λ (k : ℕ). history_of becomes.histories k ≡ history_of histories k ++ event ∷ []) same
        (get_or-set_same histories d.to.router (history_of histories d.to.router ++ event ∷ []) [] listed) in
        let held_now = subst (λ (h : History). route_at r.network (after (ports_of net router) most_routes (route_facts (ports_of net router) h)) ≡ Some r) now held in
        source_ended router d.to.port d.bytes (history_of histories router) r stem.from stem.place
        (λ e. from_other router within r held (stem.node ∙ e ∙ ap (λ k. (port_at (ports_of net router) k).node) (sym port)))
        (ap (λ k. network_of net (record { router = router; port = k })) (sym port) ∙ stem.network) port stem.node stem.wanted
        (subst (λ (k : ℕ). is_up (ports_up (ports_of net router) (history_of histories router)) k ≡ true) port (on_before router within r held))
        word.page word.has held_now
      where
        was_there : (router : ℕ) (r : RouteOffer) → Holds becomes router r → route_at r.network (routes_of net most_routes histories router) ≡ Some r
        was_there router r held =
            was_held histories (d ∷ rest) rest losing d.to.router event inside first.delivery.place first.delivery.bytes losing.waiting.1 loses router r held

        on_before : (router : ℕ) → router < length net → (r : RouteOffer) → Holds becomes router r
            → is_up (ports_up (ports_of net router) (history_of histories router)) r.port ≡ true
        on_before router within r held =
            (found_with (λ x. is_up (ports_up (ports_of net router) (history_of histories router)) x.port ≡ true)
            (λ x. is_eq (network_order x.network r.network)) (routes_of net most_routes histories router) r
            (held_routes_up (ports_of net router) most_routes (history_of histories router)) (was_there router r held)).0

        -- it came from another node than the port's own
        from_other : (router : ℕ) → router < length net → (r : RouteOffer) → Holds becomes router r → IsFromOther (ports_of net router) r
        from_other router within r held =
            (found_with (IsFromOther (ports_of net router)) (λ x. is_eq (network_order x.network r.network)) (routes_of net most_routes histories router) r
            (held_from_others (ports_of net router) most_routes (history_of histories router)) (was_there router r held)).0

    pub delivery_loses : Losing becomes
    delivery_loses =
        event_loses histories (d ∷ rest) rest losing d.to.router event inside first.delivery.place first.delivery.bytes losing.waiting.1 loses
        (λ router within r stem held waits. elim waits [
          | inl word ↦ absurd (not_for router within r stem held word)
          | inr behind ↦ behind
        ])

  -- ---- steps

  settles_loses : (histories : List History) (queue : List Delivery) → Losing (record { histories = histories; queue = queue })
      → Losing (settled_one net most_routes most_services (record { histories = histories; queue = queue }))
  settles_loses histories [] losing = losing
  settles_loses histories (d ∷ queue) losing = delivery_loses histories d queue losing

  happens_loses : (q : Queued) (router : ℕ) (event : Event) → router < length net → IsLoss net last router event → Losing q
      → Losing (queued net most_routes most_services q router event)
  happens_loses q router Stop within loss losing =
      event_loses q.histories q.queue q.queue losing router Stop within tt tt losing.waiting
      (stop_loses net laws last (ports_of net router) (ports_at net is router) most_routes most_services (history_of q.histories router) (losing.are.of_bytes router))
      (λ other there r stem held waits. waits)
  happens_loses q router (PortDown number) within loss losing =
      event_loses q.histories q.queue q.queue losing router (PortDown number) within loss.0 tt losing.waiting
      (port_down_loses net laws last (ports_of net router) (ports_at net is router) most_routes most_services (history_of q.histories router)
      (losing.are.of_bytes router) number loss.0 loss.1)
      (λ other there r stem held waits. waits)
  happens_loses q router Start within loss losing = absurd loss
  happens_loses q router Second within loss losing = absurd loss
  happens_loses q router (Packet number bytes) within loss losing = absurd loss
  happens_loses q router (PortUp number) within loss losing = absurd loss

  step_loses : (run : Run) (step : Step) → IsOfLosses net last step → Losing (forgotten run) → Losing (forgotten (stepped net most_routes most_services run step))
  step_loses run (Happens router event) loss losing =
      subst (λ (q : Queued). Losing q) (sym (events net most_routes most_services run router event None))
      (happens_loses (forgotten run) router event loss.0 loss.1 losing)
  step_loses run Settles loss losing =
      subst (λ (q : Queued). Losing q) (sym (deliveries net most_routes most_services run))
      (settles_loses run.histories (map (λ w. w.delivery) run.waiting) losing)

  pub steps_lose : (run : Run) (steps : List Step) → AllByRecursion (IsOfLosses net last) steps → Losing (forgotten run)
      → Losing (forgotten (run_of net most_routes most_services run steps))
  steps_lose run [] all losing = losing
  steps_lose run (step ∷ steps) all losing = steps_lose (stepped net most_routes most_services run step) steps all.1 (step_loses run step all.0 losing)
