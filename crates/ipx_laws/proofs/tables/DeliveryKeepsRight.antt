-- A delivery, in a tick in which tables become right.
use Rattle.std.proofs.Common.{◌≡◌, ◌≢◌, refl, sym, ap, ◌∙◌, subst, ◌⊎◌, ℕ, suc, ◌+◌, ◌-◌, ◌%◌, ◌<◌, ◌≤◌, true, false, List, [], ◌∷◌, ◌++◌, length, flat_map, Option, None, Some, inl, inr, arith, append-nil, get_or-set_same, get_or-set_other}
use Rattle.std.specs.List.{AllByRecursion}
use Rattle.std.proofs.lemmas.Bool.{cases_eq, cases_lt}
use Rattle.ipx_table.specs.Facts.{Fact}
use Rattle.ipx_table.specs.declared.held.Held.{Held}
use Rattle.ipx_wire.specs.Piece.{IsBytes}
use Rattle.ipx_wire.specs.Rip.{IsEntry}
use Rattle.ipx_wire.specs.declared.rip.Operation.{Operation}
use Rattle.ipx_wire.specs.declared.rip.Operation.TheVariants.{Request, Response}
use Rattle.ipx_wire.specs.declared.rip.RipEntry.{RipEntry}
use Rattle.ipx_wire.specs.declared.sap.Sap.TheVariants.{Query, Response as SapResponse}
use Rattle.ipx_router.specs.Facts.{route_offer, routes_offered, routes_heard, heard_after, route_facts, route_facts_of, routes_held, offers}
use Rattle.ipx_router.specs.Heard.{Heard, HeardRip, HeardSap, heard}
use Rattle.ipx_router.specs.History.{Event, History, Packet, IsOnPort, IsOfBytes, seconds_run, running, ports_up}
use Rattle.ipx_router.specs.News.{news}
use Rattle.ipx_router.specs.Port.{Port, port_at, is_up, takes_no_route, own_address, reply_to}
use Rattle.ipx_router.specs.Numbers.{unreachable, period}
use Rattle.ipx_router.specs.Relays.{Sent}
use Rattle.ipx_router.specs.Sends.{Holding, holding, news_on, asked, rip_sends, heard_sends}
use Rattle.ipx_router.specs.Told.{told}
use Rattle.ipx_router.specs.declared.route_offer.RouteOffer.{RouteOffer}
use Rattle.ipx_router.proofs.lists.EachElement.{all_both}
use Rattle.ipx_router.proofs.tables.HeldFitsFields.{held_routes_fit}
use Rattle.ipx_router.proofs.histories.OneEventMore.{seconds_stay}
use Rattle.ipx_router.proofs.changes.ChangesFitFields.{news_fit}
use Rattle.ipx_router.proofs.tables.OffersOfAMessage.{facts_from-more}
use Rattle.ipx_router.proofs.port_values.PortOfEachNumber.{port-all}
use Rattle.ipx_router.proofs.sending.OwnPacketsAreValid.{Writable}
use Rattle.ipx_router.proofs.tables.HeldWasOffered.{came_in, heard_up}
use Rattle.ipx_internet.specs.Internet.{Place, IsPlace, ports_of, port_of}
use Rattle.ipx_internet.specs.Queue.{Delivery, Queued, deliveries_of, history_of, with_event, sends_at, queued}
use Rattle.ipx_internet.specs.Rounds.{IsDelivery}
use Rattle.ipx_internet.proofs.lists.EachElement.{all_of, all_then, all-append}
use Rattle.ipx_internet.proofs.packets.ResponsesAskNothing.{IsAnswering}
use Rattle.ipx_internet.proofs.packets.SentOnOrReply.{said_so}
use Rattle.ipx_internet.proofs.places.OneReceiverOfANode.{ports_at, port_is, one_port, apart_at}
use Rattle.ipx_laws.specs.Apart.{TellsOnlyOf}
use Rattle.ipx_laws.specs.Meanwhile.{TellsNoRoute}
use Rattle.ipx_laws.specs.Least.{Way, most_ticks_right}
use Rattle.ipx_laws.specs.Gone.{most_ticks_gone}
use Rattle.ipx_laws.proofs.lists.SomeElement.{number_any, AnyIs}
use Rattle.ipx_laws.proofs.packets.RoutesOrSilence.{own_heard, near_in, silent_offers, none_or_response, foreign_offer}
use Rattle.ipx_laws.proofs.packets.SentOnSaysTheSame.{heard_message}
use Rattle.ipx_laws.proofs.packets.PagesAreHeard.{heard_page}
use Rattle.ipx_laws.proofs.tables.Given.{Given, FineOf}
use Rattle.ipx_laws.proofs.tables.GoodRoutesStay.{right_offer, same_offer, decide}
use Rattle.ipx_laws.proofs.tables.LastWords.{WantsOf, Sources, known_by, GoodBy, IsGood, facts_of, good_or_not, WordOf, PendingFor, Fine, comes_fine, Calm, Waits, Fresh, Late, Later, Same, free, StateWith, Righted, good_state, popped, calm_popped, elsewhere}
use Rattle.ipx_laws.proofs.tables.LeastRouteSurvives.{EntryIs, foreign_keep, entries_keep, entries_come, entries_any}
use Rattle.ipx_laws.proofs.tables.LeastWays.{IsNeighbour, few}
use Rattle.ipx_laws.proofs.tables.NoRouteIsBetter.{there_where_up}
use Rattle.ipx_laws.proofs.tables.SaysItsLeastWay.{Tells, news_tell}
use Rattle.ipx_laws.proofs.tables.SaysWhatItKnows.{StateFor, RightFor, Said, all_words, words_told, words_news, pends}
use Rattle.ipx_laws.proofs.tables.TurnIsNews.{all_off, knows, turn_is_news}
use Rattle.ipx_laws.proofs.tables.TurnsAreSaid.{calm_then, state_then}
use Rattle.ipx_laws.proofs.ticks.RealOrSoonEnded.{Reaches, RouteSaid, Comes, Endures, runs_where, routes_said, changes_said}
use Rattle.ipx_laws.proofs.ticks.TickAfterTick.{all_come, packet_spoken, inside, packet_lasted, packet_lasts, delivery_goes}

module _ (given : Given) (before : ℕ) (long : most_ticks_gone ≤ before) (clock : ℕ → ℕ) (few_seconds : (router : ℕ) → clock router < period)
    (at_start : ℕ → Option RouteOffer) where
  open given use {net, laws, is, differ, cheap, up, in_ports, most_routes, most_services, foreign, network}

  abbrev Good_of : List History → ℕ → Type 0
  Good_of = IsGood given

  abbrev Wanting : ℕ → Type 0
  Wanting = WantsOf given

  abbrev Source_of : ℕ → Way → ℕ → Place → Type 0
  Source_of = Sources given

  abbrev Words : Place → RipEntry → Type 0
  Words = WordOf given before

  abbrev Is_fine : Place → Delivery → Type 0
  Is_fine = Fine given before

  abbrev Pends : ℕ → Place → Delivery → Type 0
  Pends = PendingFor given before

  abbrev State_of : ℕ → (ℕ → ℕ) → List History → List Delivery → (x : ℕ) → Wanting x → List (Fact RouteOffer) → Type 0
  State_of = StateWith given before clock few_seconds at_start

  abbrev Righted_at : (ℕ → ℕ) → Queued → Type 0
  Righted_at = Righted given before clock few_seconds at_start

  abbrev Waits_by : (ℕ → ℕ) → List History → List Delivery → ℕ → Place → Type 0 → Type 0
  Waits_by = Waits given before clock few_seconds at_start

  module _ (histories : List History) (queue : List Delivery) (d : Delivery) (left : ℕ → ℕ)
      (righted : Righted_at left (record { histories = histories; queue = d ∷ queue })) where
    abbrev x : ℕ
    x = d.to.router

    abbrev ports : List Port
    ports = ports_of net x

    abbrev event : Event
    event = Packet d.to.port d.bytes

    abbrev past : History
    past = history_of histories x

    abbrev now : History
    now = past ++ event ∷ []

    abbrev after_it : List History
    after_it = with_event histories x event

    there_it_is : x < length net
    there_it_is = inside net laws is most_routes most_services up foreign (suc before) histories queue d left righted.going

    listed : x < length histories
    listed = omega (arith, there_it_is)

    is_now : history_of after_it x ≡ now
    is_now = get_or-set_same histories x now [] listed

    abbrev count : ℕ
    count = suc before - left x

    few_left : left x ≤ 1
    few_left = (righted.going.few x there_it_is).0

    enough : most_ticks_gone ≤ count
    enough = omega (arith, few_left)

    soon : suc before ≤ count + 1
    soon = let f = few_left in omega (arith, f)

    endured : Endures 0 0 net up foreign most_routes x count past
    endured = packet_lasted net laws is most_routes most_services up foreign (suc before) histories queue d left righted.going

    endures_now : Endures 0 0 net up foreign most_routes x count now
    endures_now = packet_lasts net laws is most_routes most_services up foreign (suc before) histories queue d left righted.going

    place_is : IsPlace net d.to
    place_is = righted.going.waiting.0.delivery.place

    facts_now : route_facts ports now ≡ route_facts ports past ++ routes_heard ports d.to.port (heard_after ports past d.to.port d.bytes)
    facts_now = facts_from-more (route_facts_of ports) [] past event

    steady_before : most_ticks_right ≤ before → (k : ℕ) → Good_of histories k
    steady_before steady k =
        good_state given before clock few_seconds at_start
        (left k) left histories (d ∷ queue) k (route_facts (ports_of net k) (history_of histories k)) (righted.states k) steady

    unsteady_if : (k : ℕ) → (Good_of histories k → ⊥) → before < most_ticks_right
    unsteady_if k bad = elim (cases_lt before most_ticks_right) [
      | inl less ↦ less
      | inr steady ↦ absurd (bad (steady_before steady k))
    ]

    -- the delivery is taken from the queue
    taken : (f : Place) (S : Type 0) → Waits_by left histories (d ∷ queue) x f S → Waits_by left histories queue x f S ⊎ Pends x f d
    taken = popped given before clock few_seconds at_start left histories d queue x

    -- ---- the router's own state

    neighbour_of : (f : Place) → Reaches net up f d.to → is_up (up x) d.to.port ≡ true → IsNeighbour net up in_ports x d.to.port f
    neighbour_of f reaches on = grind (arith, there_where_up, place_is)

    module _ (w : Wanting x) where
      abbrev Fresh_by : Place → ℕ → Type 0
      Fresh_by = Fresh given before clock few_seconds at_start (left x)

      abbrev Late_by : Place → ℕ → Type 0
      Late_by = Late given before clock few_seconds at_start (left x) left histories (d ∷ queue) x

      abbrev Later_by : Type 0
      Later_by = Later given before clock few_seconds at_start left histories (d ∷ queue) x w

      abbrev Later_then : Type 0
      Later_then = Later given before clock few_seconds at_start left histories queue x w

      abbrev Same_by : RouteOffer → Type 0
      Same_by = Same given before clock few_seconds at_start x

      free_by : Later_by → (o : RouteOffer) → Same_by o
      free_by = free given before clock few_seconds at_start left histories (d ∷ queue) x w

      abbrev Before : List (Fact RouteOffer) → Type 0
      Before facts = State_of (left x) left histories (d ∷ queue) x w facts

      abbrev Then : List (Fact RouteOffer) → Type 0
      Then facts = State_of (left x) left histories queue x w facts

      state_before : Before (route_facts ports past)
      state_before = righted.states x w

      fresh_now : (f : Place) → Fresh_by f 0
      fresh_now f = let s = few_left in omega (arith, s)

      module _ (f : Place) (reaches : Reaches net up f d.to) (on : is_up (up x) d.to.port ≡ true) where
        abbrev IsRight : RipEntry → Type 0
        IsRight =
            EntryIs given x w.v w.off w.least w.wanted count enough d.to.port f (neighbour_of f reaches on)

        is_real : (e : RipEntry) → RouteSaid 0 0 net up foreign (suc before) f e → takes_no_route ports e.network ≡ false → e.hops < unreachable
            → FineOf given x (route_offer d.to.port (port_of net f).node e)
        is_real e said taken near = grind arith

        is_right : (e : RipEntry) → RouteSaid 0 0 net up foreign (suc before) f e → (Source_of x w.v d.to.port f → Words f e) → IsRight e
        is_right e said words = record {
          right = λ named source.
              let hops = ap (λ (y : Way). y.hops) source.by in
              let ticks = ap (λ (y : Way). y.ticks) source.by in
              let most = few net up in_ports network 15 x w.v w.least in
              let word = words source source.way source.there (omega (arith, hops, most)) named in
              let word_hops = ap (λ (y : RipEntry). y.hops) word in
              let word_ticks = ap (λ (y : RipEntry). y.ticks) word in
              same_offer (route_offer d.to.port (port_of net f).node e)
              (right_offer given x w.v w.off w.least d.to.port f) named
              (omega (arith, word_hops, hops)) (omega (arith, word_ticks, ticks)) refl refl;
          real = is_real e said;
        }

      -- where the last word of a neighbour comes, the router has its route
      module _ (f : Place) (port : ℕ) (source : Source_of x w.v port f) (pending : Pends x f d) where
        abbrev Come : List (Fact RouteOffer) → Type 0
        Come facts =
            StateFor given
            x w Fresh_by (λ g age. Late_by g age × (g ≢ f)) ⊥ Same_by (known_by given x w facts)

        on_now : is_up (up x) d.to.port ≡ true
        on_now = grind (arith, one_port, apart_at, place_is)

        heard_so : heard_after ports past d.to.port d.bytes ≡ Some (HeardRip (own_address (port_of net f))
            (record { operation = Response; entries = pending.page.page }))
        heard_so =
            let nb = neighbour_of f pending.reaches on_now in
            ap (λ b. heard ports (ports_up ports past) b d.to.port d.bytes) (runs_where 0 0 net up foreign most_routes x d.to.port count past on_now endured)
            ∙ heard_page ports (ports_up ports past) d.to.port
            (subst (λ (us : List ℕ). is_up us d.to.port ≡ true) (sym endured.ups) on_now)
            (port_of net f) (sym nb.network)
            (λ same. differ f d.to nb.place place_is nb.other (sym nb.network) same) (port_is net is f nb.place).node
            (Said given (suc before) f) d.bytes pending.page

        comes : Come (route_facts ports now)
        comes =
            subst (λ (fs : List (Fact RouteOffer)). Come fs)
            (sym (facts_now ∙ ap (λ o. route_facts ports past ++ routes_heard ports d.to.port o) heard_so))
            (entries_come given x w.v w.off w.least w.wanted count enough d.to.port f (neighbour_of f pending.reaches on_now)
            Fresh_by fresh_now Same_by Late_by Later_by free_by
            (record { neighbour = neighbour_of f pending.reaches on_now; way = source.way; there = source.there; by = source.by })
            pending.page.page (route_facts ports past)
            (all_then (Said given (suc before) f) (IsRight f pending.reaches on_now)
            (λ e said. is_right f pending.reaches on_now e said.0 (λ s. said.1)) pending.page.page pending.page.each) pending.has endured.routes state_before)

      aged_by : (h : Held RouteOffer) (f : Place) → known_by given x w (route_facts ports now) ≡ Some h
          → RightFor given x w f h.offer → Fresh_by f h.age ⊎ Late_by f h.age
          → Fresh_by f h.age ⊎ Late given before clock few_seconds at_start (left x) left histories queue x f h.age
      aged_by h f e right (inl young) = inl young
      aged_by h f e right (inr late) = elim (taken f ((h.age + left x ≤ period + 1) ⊎ (before < most_ticks_right)) late) [
        | inl still ↦ inr still
        | inr pending ↦ elim ((comes f h.offer.port right.source pending).aged h f e right) [
          | inl young ↦ inl young
          | inr never ↦ absurd (never.1 refl)
        ]
      ]

      -- without the delivery that was heard
      without : Before (route_facts ports now) → Then (route_facts ports now)
      without state = record {
        aged = λ h f e right. aged_by h f e right (state.aged h f e right);
        holds = elim state.holds [
          | inl held ↦ inl held
          | inr (port, f, source, waits) ↦ elim (taken f (before < most_ticks_right) waits) [
            | inl still ↦ inr (port, f, source, still)
            | inr pending ↦ elim (comes f port source pending).holds [
              | inl held ↦ inl held
              | inr none ↦ absurd none
            ]
          ]
        ];
      }

      nothing_heard : route_facts ports now ≡ route_facts ports past → Then (route_facts ports now)
      nothing_heard same = without (subst (λ (fs : List (Fact RouteOffer)). Before fs) (sym same) state_before)

      -- a page is heard
      module _ (g : Place) (reaches : Reaches net up g d.to) (on : is_up (up x) d.to.port ≡ true) (entries : List RipEntry)
          (said : AllByRecursion (RouteSaid 0 0 net up foreign (suc before) g) entries)
          (heard_it : heard_after ports past d.to.port d.bytes ≡ Some (HeardRip (own_address (port_of net g)) (record { operation = Response; entries = entries })))
        where
          facts_so : route_facts ports now ≡ route_facts ports past ++ routes_offered ports d.to.port (port_of net g).node entries
          facts_so = facts_now ∙ ap (λ o. route_facts ports past ++ routes_heard ports d.to.port o) heard_it

          kept_if : AllByRecursion (λ e. Source_of x w.v d.to.port g → Words g e) entries → Then (route_facts ports now)
          kept_if words =
              without (subst (λ (fs : List (Fact RouteOffer)). Before fs) (sym facts_so)
              (entries_keep given x w.v w.off w.least w.wanted count enough d.to.port g (neighbour_of g reaches on)
              Fresh_by fresh_now Same_by Late_by Later_by entries (route_facts ports past)
              (all_then (λ e. RouteSaid 0 0 net up foreign (suc before) g e × (Source_of x w.v d.to.port g → Words g e)) (IsRight g reaches on)
              (λ e both. is_right g reaches on e both.0 both.1) entries
              (all_both (RouteSaid 0 0 net up foreign (suc before) g) (λ e. Source_of x w.v d.to.port g → Words g e) entries said words)) state_before))

          loose : StateFor given x w Fresh_by Late_by (Unit {0}) (λ r. Unit {0})
              (known_by given x w (route_facts ports now))
          loose =
              subst (λ (fs : List (Fact RouteOffer)). StateFor given x w Fresh_by Late_by (Unit {0}) (λ r. Unit {0})
              (known_by given x w fs)) (sym facts_so)
              (entries_any given x w.v w.off w.least w.wanted count enough d.to.port g (neighbour_of g reaches on)
              Fresh_by fresh_now (λ r. Unit {0}) Late_by (Unit {0}) tt entries (route_facts ports past) (record { aged = state_before.aged; holds = inr tt }))

          -- whatever it says, as the neighbour is waited for
          any_if : Later_then → Then (route_facts ports now)
          any_if later = record {
            aged = λ h f e right. aged_by h f e right (loose.aged h f e right);
            holds = inr later;
          }

          heard_page_of : Then (route_facts ports now)
          heard_page_of = elim (decide given x w.v w.off w.least d.to.port g (neighbour_of g reaches on)) [
            | inr no_source ↦ kept_if (all_of (λ e. Source_of x w.v d.to.port g → Words g e) (λ e source. absurd (no_source source)) entries)
            | inl source ↦ elim (good_or_not given g.router
                (facts_of given histories g.router)) [
                  | inr bad ↦ any_if (d.to.port, g, source, inr (inr (inl (unsteady_if g.router bad, bad))))
                  | inl good ↦ by source (righted.calm x d.to.port g w source good)
                ]
          ]
            where
              by : Source_of x w.v d.to.port g → Calm given before x g (d ∷ queue)
                  → Then (route_facts ports now)
              by source (inl all) =
                  let words = all.0 (own_address (port_of net g)) (record { operation = Response; entries = entries })
                  (heard_message ports past d.to.port d.bytes (HeardRip (own_address (port_of net g)) (record { operation = Response; entries = entries })) heard_it)
                  refl refl reaches in
                  kept_if (all_then (Words g) (λ e. Source_of x w.v d.to.port g → Words g e) (λ e word s. word) entries words)
              by source (inr (unsteady, inl ends)) = any_if (d.to.port, g, source, inr (inr (inr (unsteady, ends))))
              by source (inr (unsteady, inr last)) =
                  let come = comes g d.to.port source last.0 in
                  without (record {
                    aged = λ h f e right. elim (come.aged h f e right) [ inl young ↦ inl young | inr late ↦ inr late.0 ];
                    holds = elim come.holds [ inl held ↦ inl held | inr none ↦ absurd none ];
                  })

      own_state : Then (route_facts ports now)
      own_state = by (heard_after ports past d.to.port d.bytes) refl
        where
          none_then : (o : Option Heard) → heard_after ports past d.to.port d.bytes ≡ o → routes_heard ports d.to.port o ≡ [] → Then (route_facts ports now)
          none_then o e none =
              nothing_heard (facts_now ∙ ap (λ q. route_facts ports past ++ routes_heard ports d.to.port q) e ∙ ap (λ fs. route_facts ports past ++ fs) none
              ∙ append-nil (route_facts ports past))

          foreign_then : (m : Heard) → heard_after ports past d.to.port d.bytes ≡ Some m → TellsOnlyOf foreign m → Then (route_facts ports now)
          foreign_then m e tells =
              without (subst (λ (fs : List (Fact RouteOffer)). Before fs)
              (sym (facts_now ∙ ap (λ q. route_facts ports past ++ routes_heard ports d.to.port q) e))
              (foreign_keep given x w.v w.off w.least w.wanted count enough Fresh_by fresh_now Same_by Late_by Later_by
              (routes_heard ports d.to.port (Some m)) (route_facts ports past) (foreign_offer foreign ports d.to.port m tells) state_before))

          by : (o : Option Heard) → heard_after ports past d.to.port d.bytes ≡ o → Then (route_facts ports now)
          by None e = none_then None e refl
          by (Some m) e = elim righted.going.waiting.0.says [
            | inr tells ↦ foreign_then m e (tells m (heard_message ports past d.to.port d.bytes m e))
            | inl (g, reaches, own) ↦
                let came = came_in ports (ports_up ports past) d.to.port (running past) d.bytes m e in
                let on = subst (λ (us : List ℕ). is_up us d.to.port ≡ true) endured.ups
                (heard_up ports (ports_up ports past) d.to.port (running past) d.bytes m e) in
                elim (own_heard (RouteSaid 0 0 net up foreign (suc before) g) (port_of net g) d.bytes own came.packet m came.read
                (near_in (port_at ports d.to.port) came.packet m came.near)) [
                  | inl page ↦ heard_page_of g reaches on own.page.page own.page.each (e ∙ sym page)
                  | inr silent ↦ none_then (Some m) e (silent_offers ports d.to.port m silent)
                ]
          ]

    abbrev GoodNow : Type 0
    GoodNow = GoodBy given x (route_facts ports now)

    good_here : Good_of after_it x → GoodNow
    good_here good = subst (λ (h : History). GoodBy given x (route_facts ports h)) is_now good

    good_there : GoodNow → Good_of after_it x
    good_there good =
        subst (λ (h : History). GoodBy given x (route_facts ports h)) (sym is_now) good

    steady_now : most_ticks_right ≤ before → Good_of after_it x
    steady_now steady =
        good_there (good_state given before clock few_seconds at_start
        (left x) left histories queue x (route_facts ports now) own_state steady)

    -- ---- what is said

    abbrev place : ℕ → Place
    place j = record { router = x; port = j }

    abbrev routes : List RouteOffer
    routes = offers (routes_held ports most_routes now)

    abbrev old : List RouteOffer
    old = offers (routes_held ports most_routes past)

    abbrev bef : Holding
    bef = holding ports most_routes most_services past

    abbrev aft : Holding
    aft = holding ports most_routes most_services now

    -- an entry is real or soon ended, and right, if the router is
    abbrev Says : Place → RipEntry → Type 0
    Says from e = RouteSaid 0 0 net up foreign (suc before) from e × (Good_of after_it from.router → Words from e)

    if_good : (j : ℕ) (entries : List RipEntry) → (GoodNow → AllByRecursion (Words (place j)) entries)
        → AllByRecursion (λ e. Good_of after_it x → Words (place j) e) entries
    if_good j entries words = elim (good_or_not given x (route_facts ports now)) [
      | inl good ↦ all_then (Words (place j)) (λ e. Good_of after_it x → Words (place j) e) (λ e word good_now. word) entries (words good)
      | inr bad ↦ all_of (λ e. Good_of after_it x → Words (place j) e) (λ e good. absurd (bad (good_here good))) entries
    ]

    -- an answer is of the routes that the router has still
    same_facts : (m : Heard) → heard_after ports past d.to.port d.bytes ≡ Some m → TellsNoRoute m → route_facts ports now ≡ route_facts ports past
    same_facts m e silent = grind (arith, facts_now, silent_offers, append-nil)

    said_told : (m : Heard) → heard_after ports past d.to.port d.bytes ≡ Some m → TellsNoRoute m
        → AllByRecursion (Says (place d.to.port)) (told ports (up x) old d.to.port)
    said_told m e silent =
        let j = d.to.port in
        all_both (RouteSaid 0 0 net up foreign (suc before) (place j)) (λ e. Good_of after_it x → Words (place j) e) (told ports (up x) old j)
        (routes_said 0 0 net up foreign most_routes x count (suc before) soon past endured j)
        (if_good j (told ports (up x) old j) (λ good.
        let good_before : GoodBy given x (route_facts ports past) =
        subst (λ (fs : List (Fact RouteOffer)). GoodBy given x fs) (same_facts m e silent) good in
        all_words given (suc before)
        (place j) (told ports (up x) old j) (λ u is_u near.
        words_told given (suc before) x u is_u near old
        (knows given (suc before) x count past enough endured good_before u is_u near) j)))

    said_news : (j : ℕ) → AllByRecursion (Says (place j)) (news ports old routes j)
    said_news j =
        all_both (RouteSaid 0 0 net up foreign (suc before) (place j)) (λ e. Good_of after_it x → Words (place j) e) (news ports old routes j)
        (changes_said 0 0 net up foreign most_routes x count (suc before) soon now endures_now old j)
        (if_good j (news ports old routes j) (λ good.
        all_words given (suc before)
        (place j) (news ports old routes j) (λ u is_u near.
        words_news given (suc before) x u is_u near old routes
        (knows given (suc before) x count now enough endures_now good u is_u near)
        (all_off given (suc before) x count past enough endured) j)))

    abbrev sent : List Sent
    sent = sends_at net most_routes most_services histories x event

    abbrev new : List Delivery
    new = flat_map (deliveries_of net x) sent

    come : AllByRecursion (λ d. IsDelivery net d × Comes net up foreign Says d.to d.bytes) new
    come =
        all_come net laws is most_routes most_services up foreign Says histories righted.going.are x event place_is righted.going.waiting.0.delivery.bytes
        (packet_spoken net laws is most_routes most_services up foreign (λ j. Says (place j)) (RouteSaid 0 0 net up foreign (suc before)) histories righted.going.are d
        righted.going.waiting.0.delivery righted.going.waiting.0.says endured.ups endures_now.ups said_told said_news)

    fine : (f : Place) → Good_of after_it f.router → AllByRecursion (Is_fine f) new
    fine f good =
        all_then (λ d. IsDelivery net d × Comes net up foreign Says d.to d.bytes) (Is_fine f)
        (λ e both. comes_fine given before Says f e both.1 (λ one says. says.1 good)) new come

    -- ---- where it turns right it tells its neighbours

    sent_bytes : AllByRecursion (λ s. IsBytes s.bytes) sent
    sent_bytes =
        laws.bytes ports most_routes most_services past event (ports_at net is x)
        (all-append (IsOnPort ports) past (event ∷ []) (righted.going.are.on_ports x) (place_is, tt))
        (all-append IsOfBytes past (event ∷ []) (righted.going.are.of_bytes x) (righted.going.waiting.0.delivery.bytes, tt))

    still : AllByRecursion IsOfBytes now
    still = all-append IsOfBytes past (event ∷ []) (righted.going.are.of_bytes x) (righted.going.waiting.0.delivery.bytes, tt)

    abbrev SaidBy : ℕ → RipEntry → Type 0
    SaidBy j = Said given (suc before) (place j)

    news_writable : (j : ℕ) → Good_of after_it x → AllByRecursion (Writable (SaidBy j)) (news ports old routes j)
    news_writable j good =
        all_both IsEntry (SaidBy j) (news ports old routes j)
        (news_fit ports old routes j (held_routes_fit laws.readings ports most_routes past (righted.going.are.of_bytes x))
        (held_routes_fit laws.readings ports most_routes now still))
        (all_then (Says (place j)) (SaidBy j) (λ e says. (says.0, says.1 good)) (news ports old routes j) (said_news j))

    -- only what tells of routes changes any
    sends_news : GoodNow → (Good_of histories x → ⊥) → sent ≡ flat_map (news_on ports bef aft) aft.up
    sends_news good bad = by (heard_after ports past d.to.port d.bytes) refl
      where
        unchanged : route_facts ports now ≡ route_facts ports past → sent ≡ flat_map (news_on ports bef aft) aft.up
        unchanged same =
            absurd (bad (subst (λ (fs : List (Fact RouteOffer)). GoodBy given x fs) same good))

        -- a response is answered by changes alone
        news_of : (m : Heard) → IsAnswering m → heard_sends ports bef aft d.to.port m ≡ flat_map (news_on ports bef aft) aft.up
        news_of (HeardRip source rip) answers = ap said_for answers
          where
            said_for : Operation → List Sent
            said_for operation = elim operation [
              | Response ↦ flat_map (news_on ports bef aft) aft.up
              | Request ↦ rip_sends ports d.to.port (reply_to (port_at ports d.to.port) source) Response (asked rip.entries (told ports bef.up bef.routes d.to.port))
            ]
        news_of (HeardSap source (Query nearest kind)) answers = absurd answers
        news_of (HeardSap source (SapResponse nearest entries)) answers = refl

        by : (o : Option Heard) → heard_after ports past d.to.port d.bytes ≡ o → sent ≡ flat_map (news_on ports bef aft) aft.up
        by None e =
            unchanged (facts_now ∙ ap (λ q. route_facts ports past ++ routes_heard ports d.to.port q) e ∙ append-nil (route_facts ports past))
        by (Some m) e = elim righted.going.waiting.0.says [
          | inr tells ↦ elim (none_or_response foreign m (tells m (heard_message ports past d.to.port d.bytes m e))) [
            | inl silent ↦ unchanged (same_facts m e silent)
            | inr answers ↦
                said_so laws ports (ports_at net is x) most_routes most_services past (righted.going.are.on_ports x) (righted.going.are.of_bytes x) d.to.port d.bytes
                place_is righted.going.waiting.0.delivery.bytes m e ∙ news_of m answers
          ]
          | inl (g, reaches, own) ↦
              let came = came_in ports (ports_up ports past) d.to.port (running past) d.bytes m e in
              elim (own_heard (RouteSaid 0 0 net up foreign (suc before) g) (port_of net g) d.bytes own came.packet m came.read
              (near_in (port_at ports d.to.port) came.packet m came.near)) [
                | inr silent ↦ unchanged (same_facts m e silent)
                | inl page ↦
                    said_so laws ports (ports_at net is x) most_routes most_services past (righted.going.are.on_ports x) (righted.going.are.of_bytes x) d.to.port d.bytes
                    place_is righted.going.waiting.0.delivery.bytes (HeardRip (own_address (port_of net g))
                    (record { operation = Response; entries = own.page.page })) (e ∙ sym page)
              ]
        ]

    turns : (y port : ℕ) (w : Wanting y) (j : ℕ) → Source_of y w.v port (place j) → Good_of after_it x → (Good_of histories x → ⊥) → AnyIs (Pends y (place j)) new
    turns y port w j source good bad =
        pends given (suc before) y w port (place j) source sent sent_bytes
        (subst (λ (ss : List Sent). AnyIs (Tells ports network source.way (SaidBy j) j) ss) (sym (sends_news (good_here good) bad))
        (news_tell ports network source.way laws.readings laws.again j (port-all _ ports j (ports_at net is x) source.neighbour.place) (SaidBy j) bef aft
        (subst (λ (us : List ℕ). AnyIs (λ k. k ≡ j) us) (sym endures_now.ups) (number_any j (up x) source.neighbour.on_there))
        (news_writable j good)
        (turn_is_news given (suc before) count past now enough y port w (place j)
        source endures_now (good_here good) bad)))

    turned : (y port : ℕ) (f : Place) (w : Wanting y) → Source_of y w.v port f → f.router ≡ x → Good_of after_it x → (Good_of histories x → ⊥)
        → AnyIs (Pends y f) new
    turned y port f w source here good bad =
        let same : f ≡ place f.port = ap (λ r. record { router = r; port = f.port }) here in
        subst (λ (p : Place). AnyIs (Pends y p) new) (sym same)
        (turns y port w f.port (subst (λ (p : Place). Source_of y w.v port p) same source) good bad)

    -- ---- every router's state

    same_history : (k : ℕ) → k ≢ x → history_of after_it k ≡ history_of histories k
    same_history k off = get_or-set_other histories x k now [] off

    then_so : (mine k : ℕ) (w : Wanting k) (facts : List (Fact RouteOffer)) → State_of mine left histories queue k w facts
        → State_of mine left after_it (queue ++ new) k w facts
    then_so =
        state_then given before clock few_seconds at_start
        left left histories after_it queue new x (λ k off. refl) same_history steady_before steady_now fine turned
        (λ y port f w source here at_zero due. inl due)

    state_now : (k : ℕ) (w : Wanting k) → State_of (left k) left after_it (queue ++ new) k w (route_facts (ports_of net k) (history_of after_it k))
    state_now k w = by (cases_eq k x)
      where
        by : (k ≡ x) ⊎ (k ≢ x) → State_of (left k) left after_it (queue ++ new) k w (route_facts (ports_of net k) (history_of after_it k))
        by (inl same) = moved same w
          where
            Now : ℕ → Type 0
            Now r = (v : Wanting r) → State_of (left r) left after_it (queue ++ new) r v (route_facts (ports_of net r) (history_of after_it r))

            moved : k ≡ x → Now k
            moved e =
                subst Now (sym e) (λ v. subst (λ (h : History). State_of (left x) left after_it (queue ++ new) x v (route_facts ports h)) (sym is_now)
                (then_so (left x) x v (route_facts ports now) (own_state v)))
        by (inr off) =
            subst (λ (h : History). State_of (left k) left after_it (queue ++ new) k w (route_facts (ports_of net k) h)) (sym (same_history k off))
            (then_so (left k) k w (route_facts (ports_of net k) (history_of histories k))
            (elsewhere given before clock few_seconds at_start
            (left k) left histories d queue k off w (route_facts (ports_of net k) (history_of histories k)) (righted.states k w)))

    clock_now : (router port : ℕ) → is_up (up router) port ≡ true → (seconds_run (history_of after_it router) + left router) % period ≡ clock router
    clock_now router port here = by (cases_eq router x)
      where
        by : (router ≡ x) ⊎ (router ≢ x) → (seconds_run (history_of after_it router) + left router) % period ≡ clock router
        by (inl same) = moved same here
          where
            Now : ℕ → Type 0
            Now r = is_up (up r) port ≡ true → (seconds_run (history_of after_it r) + left r) % period ≡ clock r

            moved : router ≡ x → Now router
            moved e =
                subst Now (sym e) (λ there_is. subst (λ (h : History). (seconds_run h + left x) % period ≡ clock x) (sym is_now)
                (ap (λ n. (n + left x) % period) (seconds_stay past event refl refl (runs_where 0 0 net up foreign most_routes x port count past there_is endured))
                ∙ righted.clocks x port there_is))
        by (inr off) =
            subst (λ (h : History). (seconds_run h + left router) % period ≡ clock router) (sym (same_history router off)) (righted.clocks router port here)

    pub delivery_rights : Righted_at left (queued net most_routes most_services (record { histories = histories; queue = queue }) x event)
    delivery_rights = record {
      going = delivery_goes net laws is most_routes most_services up foreign (suc before) histories queue d left righted.going;
      states = state_now;
      calm =
          calm_then given before clock few_seconds at_start
          left left histories after_it queue new x (λ k off. refl) same_history steady_before steady_now fine turned
          (λ y port f w source here at_zero due. inl due)
          (λ y port f w source good. calm_popped given before clock few_seconds at_start
          d queue y f (righted.calm y port f w source good));
      clocks = clock_now;
    }
