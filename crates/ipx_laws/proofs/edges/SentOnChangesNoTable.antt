-- Where routers have edges, what was sent on changes no table.
use Rattle.std.proofs.Common.{◌≡◌, refl, sym, ap, ◌∙◌, subst, ℕ, ◌<◌, List, [], ◌∷◌, ◌++◌, length, Option, None, Some, append-nil, get_or-set_same, get_or-set_other, inl, inr, arith}
use Rattle.std.specs.Option.{option_map}
use Rattle.std.proofs.lemmas.Bool.{cases_eq}
use Rattle.ipx_router.specs.Facts.{route_facts_of, service_facts_of, route_facts, service_facts, routes_heard, services_heard, heard_after, routes_held, services_held}
use Rattle.ipx_router.specs.History.{History, Packet, running, ports_up}
use Rattle.ipx_router.specs.Port.{Port}
use Rattle.ipx_router.specs.Routes.{route_rules}
use Rattle.ipx_router.specs.Services.{service_rules}
use Rattle.ipx_router.proofs.tables.OffersOfAMessage.{facts_from-more}
use Rattle.ipx_table.specs.Stands.{held}
use Rattle.ipx_edge.specs.Entered.{entered}
use Rattle.ipx_internet.specs.Internet.{Internet, IsInternet, ports_of, port_of}
use Rattle.ipx_internet.specs.Log.{Sending, Reception}
use Rattle.ipx_internet.specs.Queue.{history_of, with_event}
use Rattle.ipx_internet.specs.Run.{Settles, Waiting, Run, stepped}
use Rattle.ipx_internet.proofs.packets.ForwardsDiffer.{Routing}
use Rattle.ipx_internet.proofs.packets.SentOnOrReply.{Layouts}
use Rattle.ipx_laws.specs.inside.EdgeLaws.{Edge}
use Rattle.ipx_laws.specs.Edges.{edge_stepped, HoldTheSame}
use Rattle.ipx_internet.proofs.trees.RunIsALog.{router_there}
use Rattle.ipx_laws.proofs.edges.EdgesKeepRuns.{Well, carried_on, unheard_in}

-- ---- one router

-- a packet of which nothing is heard changes neither table
module _ (ports : List Port) (history : History) (number : ℕ) (bytes : List ℕ) (unheard : heard_after ports history number bytes ≡ None) where
  same_routes : (most : ℕ) → routes_held ports most (history ++ Packet number bytes ∷ []) ≡ routes_held ports most history
  same_routes most =
      ap (held (route_rules ports most))
      (facts_from-more (route_facts_of ports) [] history (Packet number bytes)
      ∙ ap (λ o. route_facts ports history ++ routes_heard ports number o) unheard ∙ append-nil (route_facts ports history))

  same_services : (most : ℕ) → services_held ports most (history ++ Packet number bytes ∷ []) ≡ services_held ports most history
  same_services most =
      ap (held (service_rules ports most))
      (facts_from-more (service_facts_of ports) [] history (Packet number bytes)
      ∙ ap (λ o. service_facts ports history ++ services_heard number o) unheard ∙ append-nil (service_facts ports history))

-- ---- all routers

module _ (net : Internet) (most_routes most_services : ℕ) where
  -- what a router has after a history
  abbrev SameAs : ℕ → History → History → Type 0
  SameAs router old new =
      (routes_held (ports_of net router) most_routes new ≡ routes_held (ports_of net router) most_routes old)
      × (services_held (ports_of net router) most_services new ≡ services_held (ports_of net router) most_services old)

  all_the_same : (histories : List History) (router number : ℕ) (bytes : List ℕ) → router < length histories
      → heard_after (ports_of net router) (history_of histories router) number bytes ≡ None → (other : ℕ)
      → SameAs other (history_of histories other) (history_of (with_event histories router (Packet number bytes)) other)
  all_the_same histories router number bytes there unheard other = elim (cases_eq router other) [
    | inl e ↦
        let P : ℕ → Type 0 = λ k. SameAs k (history_of histories k) (history_of (with_event histories router (Packet number bytes)) k) in
        let history = history_of histories router in
        subst P e
        (subst (λ (h : History). SameAs router history h) (sym (get_or-set_same histories router (history ++ Packet number bytes ∷ []) [] there))
        (same_routes (ports_of net router) history number bytes unheard most_routes, same_services (ports_of net router) history number bytes unheard most_services))
    | inr off ↦
        let stays = get_or-set_other histories router other (history_of histories router ++ Packet number bytes ∷ []) [] (λ e. off (sym e)) in
        subst (λ (h : History). SameAs other (history_of histories other) h) (sym stays) (refl, refl)
  ]

  module _ (laws : Layouts) (routing : Routing) (edge : Edge) (is : IsInternet net) where
    contained_in : (histories : List History) (log : List Reception) (w : Waiting) (waiting : List Waiting) (s : Sending)
        → Well net (record { histories = histories; waiting = w ∷ waiting; log = log }) → w.origin ≡ Some s
        → (o : Option (List ℕ)) → entered (port_of net w.delivery.to) w.delivery.bytes ≡ o
        → HoldTheSame net most_routes most_services (record { histories = histories; waiting = w ∷ waiting; log = log }) (elim (option_map
        (λ new. record { delivery = record { to = w.delivery.to; bytes = new }; origin = w.origin }) o) [
          | Some next ↦ stepped net most_routes most_services (record { histories = histories; waiting = next ∷ waiting; log = log }) Settles
          | None ↦ record { histories = histories; waiting = waiting; log = log }
        ])
    contained_in histories log w waiting s well from None e router = (refl, refl)
    contained_in histories log w waiting s well from (Some new) e router =
        let to = w.delivery.to in
        let it = well.good.waiting.0 in
        let history = history_of histories to.router in
        let carried = carried_on net laws routing edge is most_routes most_services (record { histories = histories; waiting = w ∷ waiting; log = log }) well w it s from in
        let unheard = unheard_in net laws routing edge is most_routes most_services to it.within (ports_up (ports_of net to.router) history) (running history)
        w.delivery.bytes new carried e _ refl in
        let each = well.good.histories.each in
        let there = router_there net to.router to.port it.within in
        all_the_same histories to.router to.port new (omega (arith, each, there)) unheard router

    pub contained : (run : Run) (w : Waiting) (waiting : List Waiting) (s : Sending) → Well net run → run.waiting ≡ w ∷ waiting → w.origin ≡ Some s
        → HoldTheSame net most_routes most_services run (edge_stepped net most_routes most_services run Settles)
    contained run w waiting s well is_first from =
        let with_waiting : List Waiting → Run = λ ws. record { histories = run.histories; waiting = ws; log = run.log } in
        let P : List Waiting → Type 0 = λ ws. HoldTheSame net most_routes most_services (with_waiting ws) (edge_stepped net most_routes most_services (with_waiting ws) Settles) in
        subst P (sym is_first)
        (contained_in run.histories run.log w waiting s (subst (λ (ws : List Waiting). Well net (with_waiting ws)) is_first well) from _ refl)
