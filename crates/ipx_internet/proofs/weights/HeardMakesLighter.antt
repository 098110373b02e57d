-- A delivery that a router hears leaves less weight than there was: what is sent for it, and what the tables hold then, weigh less than the
-- delivery and what they held.
use Rattle.std.proofs.Common.{◌≡◌, refl, sym, ap, ◌∙◌, subst, ◌⊎◌, ℕ, ◌+◌, ◌-◌, ◌*◌, ◌≤◌, ◌==◌, ◌||◌, if◌then◌else◌, Bool, true, false, List, [], ◌∷◌, ◌++◌, length, flat_map, Option, Some, inl, inr, arith, mul-le-mul_left, mul-le-mul_right, mul-add, mul_assoc, mul_comm}
use Rattle.std.specs.List.{AllByRecursion, sum_by, list_any}
use Rattle.std.proofs.lemmas.List.{length-map}
use Rattle.ipx_table.specs.declared.held.Held.{Held}
use Rattle.ipx_wire.specs.Rip.{RipParts, IsEntry}
use Rattle.ipx_wire.specs.declared.address.Address.{Address}
use Rattle.ipx_wire.specs.declared.rip.Operation.{Operation}
use Rattle.ipx_wire.specs.declared.rip.Operation.TheVariants.{Request, Response}
use Rattle.ipx_wire.specs.declared.rip.RipEntry.{RipEntry}
use Rattle.ipx_wire.specs.declared.sap.Sap.TheVariants.{Query, Response as SapResponse}
use Rattle.ipx_wire.specs.declared.service.Service.{Service}
use Rattle.ipx_router.specs.Changes.{changes}
use Rattle.ipx_router.specs.Facts.{routes_heard, services_heard, routes_held, services_held, offers}
use Rattle.ipx_router.specs.Heard.{Heard, HeardRip, HeardSap}
use Rattle.ipx_router.specs.History.{History, Packet, IsOfBytes, running, ports_up}
use Rattle.ipx_router.specs.News.{route_told, service_told, news, news_services, same_route, same_service}
use Rattle.ipx_router.specs.Numbers.{all_routes, every_service}
use Rattle.ipx_router.specs.Port.{Port, broadcast, port_at, is_up, reply_to, same_node}
use Rattle.ipx_router.specs.Relays.{Sent}
use Rattle.ipx_router.specs.Routes.{route_reading, network_order}
use Rattle.ipx_router.specs.Sends.{Holding, news_on, heard_sends, rip_sends, sap_sends, asked, of_kind, nearest_of}
use Rattle.ipx_router.specs.Services.{service_reading, service_order}
use Rattle.ipx_router.specs.Told.{told, told_services}
use Rattle.ipx_router.specs.declared.route_offer.RouteOffer.{RouteOffer}
use Rattle.ipx_router.specs.declared.service_offer.ServiceOffer.{ServiceOffer}
use Rattle.ipx_router.proofs.bytes.FieldsAreBytes.{IsPlace as IsWritten, IsTellable}
use Rattle.ipx_router.proofs.lists.EachElement.{all_both}
use Rattle.ipx_router.proofs.tables.HeldFitsFields.{held_routes_fit, held_services_fit}
use Rattle.ipx_router.proofs.verdicts.HeardIsAsLayoutsAllow.{heard_is}
use Rattle.ipx_router.proofs.histories.OneEventMore.{ports_stay}
use Rattle.ipx_router.proofs.bounds.ItemsOfEachList.{length-filter, length-numbers, length-told, length-told_services}
use Rattle.ipx_router.proofs.changes.ChangesFitFields.{ChangeOf, changes_fit, anything, news_fit, news_services_fit}
use Rattle.ipx_router.proofs.sending.OwnPacketsAreValid.{Writable}
use Rattle.ipx_router.proofs.port_values.PortOfEachNumber.{ports_up-within}
use Rattle.ipx_router.proofs.tables.HeldWasOffered.{source_of, heard_up}
use Rattle.ipx_router.proofs.telling.ToldFitsFields.{told_fits, told_services_fit}
use Rattle.ipx_internet.specs.Internet.{Internet, IsInternet, NodesDiffer, ports_of}
use Rattle.ipx_internet.specs.InternetWeight.{most_hearers, entry_weight, routes_weight, most_answered, request_weight, query_weight, message_weight}
use Rattle.ipx_internet.specs.Most.{most_ports, most_on_network}
use Rattle.ipx_internet.specs.Queue.{Delivery, deliveries_of, history_of}
use Rattle.ipx_internet.specs.Rounds.{IsDelivery}
use Rattle.ipx_internet.specs.Run.{AreHistories}
use Rattle.ipx_internet.proofs.lists.EachElement.{all_then, all-append, all-filter}
use Rattle.ipx_internet.proofs.packets.PagesReadAgain.{Tellable}
use Rattle.ipx_internet.proofs.packets.ResponsesAskNothing.{IsAnswering}
use Rattle.ipx_internet.proofs.packets.SentOnOrReply.{Layouts, said}
use Rattle.ipx_internet.proofs.packets.SentOnReadAgain.{Wire}
use Rattle.ipx_internet.proofs.places.FewOnANetwork.{router_small}
use Rattle.ipx_internet.proofs.places.OneReceiverOfANode.{ports_at}
use Rattle.ipx_internet.proofs.rounds.FewDeliveriesARound.{Rooms}
use Rattle.ipx_internet.proofs.rounds.OneRound.{sents, sent_for}
use Rattle.ipx_internet.proofs.weights.AnswersWeighLess.{all_told, all_told_services, nearest_such, one_nearest, entries_answer, services_answer, nearest_answer}
use Rattle.ipx_internet.proofs.weights.ChangesWeighPerHearer.{routes_told, services_told, route_change, service_change, all_changes, on_ports}
use Rattle.ipx_internet.proofs.weights.EntriesWeighEnough.{route_told_weight, service_told_weight, brings, service_brings}
use Rattle.ipx_internet.proofs.weights.HeardPaysItsChanges as outlays
use Rattle.ipx_internet.proofs.weights.HeardWeighsEnough.{IsHeardOf, heard_of, message_weighs, entries_weight, response_weighs, entries_pay}
use Rattle.ipx_internet.proofs.weights.OffersPayTheirCost.{telling}
use Rattle.ipx_internet.proofs.weights.PagesAtEitherProcess.{IsTold, IsToldService}
use Rattle.ipx_internet.proofs.weights.PagesAtTheirProcess.{w}

-- the records of a router came by ports that are up
pub record OnUps : Type 0 where
  pub routes : (ports : List Port) (capacity : ℕ) (history : History) → AllByRecursion (λ r. is_up (ports_up ports history) r.port ≡ true) (offers (routes_held ports capacity history))
  pub services : (ports : List Port) (capacity : ℕ) (history : History) → AllByRecursion (λ s. is_up (ports_up ports history) s.port ≡ true) (offers (services_held ports capacity history))

module _ (net : Internet) (laws : Layouts) (ups : OnUps) (is : IsInternet net) (most_routes most_services : ℕ)
    (histories : List History) (are : AreHistories net histories) (d : Delivery) (delivery : IsDelivery net d) where
  abbrev router : ℕ
  router = d.to.router

  abbrev number : ℕ
  number = d.to.port

  abbrev ports : List Port
  ports = ports_of net router

  abbrev history : History
  history = history_of histories router

  abbrev now : History
  now = history ++ Packet number d.bytes ∷ []

  abbrev sent : List Sent
  sent = sents net most_routes most_services histories d

  abbrev before : Holding
  before = outlays.before ports most_routes most_services history number d.bytes

  abbrev after : Holding
  after = outlays.after ports most_routes most_services history number d.bytes

  abbrev heard_now : Option Heard
  heard_now = outlays.heard_now ports most_routes most_services history number d.bytes

  abbrev held_before : ℕ
  held_before = outlays.held_before ports most_routes most_services history number d.bytes

  abbrev held_now : ℕ
  held_now = outlays.held_now ports most_routes most_services history number d.bytes

  abbrev weigh : List Delivery → ℕ
  weigh = sum_by (w net most_routes most_services)

  -- less than before
  abbrev pub Lighter : Type 0
  Lighter = most_hearers net * held_now + weigh (sent_for net most_routes most_services histories d) + 1
      ≤ most_hearers net * held_before + w net most_routes most_services d

  -- ---- changes

  same_ups : ports_up ports now ≡ ports_up ports history
  same_ups = ports_stay ports history (Packet number d.bytes) refl refl (λ port. refl) (λ port. refl)

  few_ups : length after.up ≤ most_ports net
  few_ups = omega (arith, length-filter, length-numbers, router_small)

  abbrev cost : ℕ
  cost = outlays.routes_cost ports most_routes most_services history number d.bytes net + outlays.services_cost ports most_routes most_services history number d.bytes net

  abbrev others : ℕ
  others = length after.up - 1

  routes_on_ports : sum_by (λ j. routes_told net (news ports before.routes after.routes j)) after.up
      ≤ others * outlays.routes_cost ports most_routes most_services history number d.bytes net
  routes_on_ports =
      let up = after.up in
      let On : RouteOffer → Type 0 = λ r. is_up up r.port ≡ true in
      let was : AllByRecursion On before.routes = subst (λ (up : List ℕ). AllByRecursion (λ r. is_up up r.port ≡ true) before.routes) (sym same_ups) (ups.routes ports most_routes history) in
      let cs = changes route_reading.key network_order same_route before.routes after.routes in
      all_changes (route_told ports) (λ e. 1 + entry_weight net e.hops) (λ c. telling (route_told_weight net) c.after) up others cs
      (all_then (ChangeOf On) (λ c. sum_by (λ j. routes_told net (route_told ports j c)) up ≤ others * telling (route_told_weight net) c.after)
      (λ c on. route_change net ports up c.before c.after on.0 on.1) cs
      (changes_fit On route_reading.key network_order same_route before.routes after.routes was (ups.routes ports most_routes now)))

  services_on_ports : sum_by (λ j. services_told net (news_services before.services after.services j)) after.up
      ≤ others * outlays.services_cost ports most_routes most_services history number d.bytes net
  services_on_ports =
      let up = after.up in
      let On : ServiceOffer → Type 0 = λ s. is_up up s.port ≡ true in
      let was : AllByRecursion On before.services = subst (λ (up : List ℕ). AllByRecursion (λ s. is_up up s.port ≡ true) before.services) (sym same_ups) (ups.services ports most_services history) in
      let cs = changes service_reading.key service_order same_service before.services after.services in
      all_changes service_told (λ s. 1 + entry_weight net s.hops) (λ c. telling (service_told_weight net) c.after) up others cs
      (all_then (ChangeOf On) (λ c. sum_by (λ j. services_told net (service_told j c)) up ≤ others * telling (service_told_weight net) c.after)
      (λ c on. service_change net up c.before c.after on.0 on.1) cs
      (changes_fit On service_reading.key service_order same_service before.services after.services was (ups.services ports most_services now)))

  all_of_bytes : AllByRecursion IsOfBytes now
  all_of_bytes = all-append IsOfBytes history (Packet number d.bytes ∷ []) (are.of_bytes router) (delivery.bytes, tt)

  abbrev AnyEntry : RipEntry → Type 0
  AnyEntry e = Unit {0}

  abbrev AnyService : Service → Type 0
  AnyService s = Unit {0}

  -- what is told of them weighs as much as they cost, at each that hears it
  news_light : weigh (flat_map (deliveries_of net router) (flat_map (news_on ports before after) after.up)) ≤ most_hearers net * cost
  news_light =
      let all = on_ports net laws is most_routes most_services router (λ j. news ports before.routes after.routes j) (λ j. news_services before.services after.services j)
      (λ j.
      let entries = news ports before.routes after.routes j in
      all_both IsEntry AnyEntry entries
      (news_fit ports before.routes after.routes j (held_routes_fit laws.readings ports most_routes history (are.of_bytes router))
      (held_routes_fit laws.readings ports most_routes now all_of_bytes)) (anything entries))
      (λ j.
      let services = news_services before.services after.services j in
      all_both IsTellable AnyService services
      (news_services_fit before.services after.services j (held_services_fit laws.readings ports most_services history (are.of_bytes router))
      (held_services_fit laws.readings ports most_services now all_of_bytes)) (anything services))
      after.up (ports_up-within ports now) in
      let receivers = most_on_network net - 1 in
      let of_routes = routes_on_ports in
      let of_services = services_on_ports in
      let r = outlays.routes_cost ports most_routes most_services history number d.bytes net in
      let s = outlays.services_cost ports most_routes most_services history number d.bytes net in
      let split = mul-add others r s in
      let told = sum_by (λ j. routes_told net (news ports before.routes after.routes j)) after.up + sum_by (λ j. services_told net (news_services before.services after.services j)) after.up in
      let within : told ≤ others * cost = omega (arith, of_routes, of_services, split) in
      let each = mul-le-mul_left receivers within in
      let apart = mul_assoc receivers others cost in
      let turned = ap (λ (n : ℕ). n * cost) (mul_comm receivers others) in
      let few = few_ups in
      let fewer : others ≤ most_ports net - 1 = omega (arith, few) in
      let more = mul-le-mul_right cost (mul-le-mul_right receivers fewer) in
      omega (arith, all, each, apart, turned, more)

  -- ---- a response

  module _ (m : Heard) (e : heard_now ≡ Some m) where
    -- what is heard weighs as much as the delivery
    of_packet : IsHeardOf (port_at ports number) d.bytes m
    of_packet = heard_of ports (ports_up ports history) number d.bytes (running history) m e

    -- nothing is sent, or what changed, on each port
    news_sent : IsAnswering m → (sent ≡ []) ⊎ (sent ≡ flat_map (news_on ports before after) after.up)
    news_sent answers =
        let either = said laws ports (ports_at net is router) most_routes most_services history (are.on_ports router) (are.of_bytes router)
        number d.bytes delivery.place delivery.bytes m e in
        elim either [
          | inl none ↦ inl none
          | inr these ↦ inr (these ∙ by m answers)
        ]
      where
        by : (m : Heard) → IsAnswering m → heard_sends ports before after number m ≡ flat_map (news_on ports before after) after.up
        by (HeardRip source rip) answers =
            ap (λ (o : Operation). elim o [
              | Response ↦ flat_map (news_on ports before after) after.up
              | Request ↦ rip_sends ports number (reply_to (port_at ports number) source) Response (asked rip.entries (told ports before.up before.routes number))
            ]) answers
        by (HeardSap source (Query nearest kind)) answers = absurd answers
        by (HeardSap source (SapResponse nearest entries)) answers = refl

    sent_light : IsAnswering m → weigh (sent_for net most_routes most_services histories d) ≤ most_hearers net * cost
    sent_light answers = grind (arith, news_sent, news_light)

    -- what changed, and what is held then, costs no more than what was held and what the entries weigh
    paid : most_hearers net * cost + most_hearers net * held_now ≤ most_hearers net * held_before + entries_weight net most_routes most_services m
    paid =
        let n = most_hearers net in
        let of_routes = outlays.routes_paid ports most_routes most_services history number d.bytes net in
        let of_services = outlays.services_paid ports most_routes most_services history number d.bytes net in
        let shares = outlays.route_shares ports most_routes most_services history number d.bytes in
        let service_shares = outlays.service_shares ports most_routes most_services history number d.bytes in
        let b = sum_by (brings net most_routes shares) (routes_heard ports number heard_now) in
        let c = sum_by (service_brings net most_services service_shares) (services_heard number heard_now) in
        let together : cost + held_now ≤ held_before + (b + c) = omega (arith, of_routes, of_services) in
        let scaled = mul-le-mul_left n together in
        let left = mul-add n cost held_now in
        let right = mul-add n held_before (b + c) in
        let parts = mul-add n b c in
        let pay : n * b + n * c ≤ entries_weight net most_routes most_services m =
        subst (λ (o : Option Heard).
        n * sum_by (brings net most_routes shares) (routes_heard ports number o) + n * sum_by (service_brings net most_services service_shares) (services_heard number o)
        ≤ entries_weight net most_routes most_services m) (sym e)
        (entries_pay net most_routes most_services ports number shares service_shares m) in
        omega (arith, scaled, left, right, parts, pay)

    pub response_lighter : IsAnswering m → Lighter
    response_lighter answers = grind (arith, of_packet, message_weighs, response_weighs, sent_light, paid)

    -- ---- a request or a query

    -- it offers nothing
    stays : routes_heard ports number (Some m) ≡ [] → services_heard number (Some m) ≡ [] → held_now ≡ held_before
    stays no_routes no_services =
        outlays.all_stays ports most_routes most_services history number d.bytes (ap (routes_heard ports number) e ∙ no_routes) (ap (services_heard number) e ∙ no_services)

    -- where an answer is all that is sent, it is lighter
    answer_lighter : (weight : ℕ) → w net most_routes most_services d ≡ weight → held_now ≡ held_before
        → weigh (flat_map (deliveries_of net router) (heard_sends ports before after number m)) + 1 ≤ weight → Lighter
    answer_lighter weight whole same light =
        let either = said laws ports (ports_at net is router) most_routes most_services history (are.on_ports router) (are.of_bytes router)
        number d.bytes delivery.place delivery.bytes m e in
        let held = ap (λ (n : ℕ). most_hearers net * n) same in
        elim either [
          | inl none ↦
              let nothing_sent = ap (λ (ss : List Sent). weigh (flat_map (deliveries_of net router) ss)) none in
              omega (arith, nothing_sent, held, whole, light)
          | inr these ↦
              let all = ap (λ (ss : List Sent). weigh (flat_map (deliveries_of net router) ss)) these in
              omega (arith, all, held, whole, light)
        ]

    up_there : is_up before.up number ≡ true
    up_there = heard_up ports (ports_up ports history) number (running history) d.bytes m e

    module _ (wire : Wire) (rooms : Rooms) (differ : NodesDiffer net) where
      source_is : IsWritten (source_of m)
      source_is = (heard_is laws.readings ports (ports_up ports history) number d.bytes delivery.bytes (running history) m e).source

      asked_lighter : (source : Address) (rip : RipParts) → m ≡ HeardRip source rip → rip.operation ≡ Request → Lighter
      asked_lighter source rip is_rip request =
          let of = of_packet in
          let all = told ports before.up before.routes number in
          let entries = asked rip.entries all in
          let one : same_node source.node broadcast ≡ false = subst (λ (h : Heard). same_node (source_of h).node broadcast ≡ false) is_rip of.source in
          let written : IsWritten source = subst (λ (h : Heard). IsWritten (source_of h)) is_rip source_is in
          let fits = all_both IsEntry IsTold all
          (told_fits ports (ports_at net is router) before.up before.routes number (ports_up-within ports history) (held_routes_fit laws.readings ports most_routes history (are.of_bytes router)))
          (all_told ports (ports_at net is router) number delivery.place before.up before.routes) in
          let fewer = length-filter (λ e. list_any (λ w. (w.network.0 == all_routes) || (w.network.0 == e.network.0)) rip.entries) all in
          let few_told = length-told ports before.up before.routes number up_there in
          let as_many = length-map (routes_held ports most_routes history) (λ (h : Held RouteOffer). h.offer) in
          let room = rooms.routes ports most_routes history in
          let few = few_ups in
          let ups_same = ap length same_ups in
          let within : length entries ≤ most_answered net most_routes = omega (arith, fewer, few_told, as_many, room, few, ups_same) in
          let light = entries_answer wire net laws is differ most_routes most_services router number delivery.place source one written entries
          (all-filter (Writable IsTold) _ all fits) within in
          let sends : heard_sends ports before after number m ≡ rip_sends ports number (reply_to (port_at ports number) source) Response entries =
          ap (heard_sends ports before after number) is_rip
          ∙ ap (λ (o : Operation). elim o [
            | Response ↦ flat_map (news_on ports before after) after.up
            | Request ↦ rip_sends ports number (reply_to (port_at ports number) source) Response entries
          ]) request in
          let weight : w net most_routes most_services d ≡ request_weight net most_routes source.socket.0 =
          message_weighs net most_routes most_services d m of
          ∙ ap (message_weight net most_routes most_services) is_rip
          ∙ ap (λ (o : Operation). elim o [ Response ↦ 1 + routes_weight net rip.entries | Request ↦ request_weight net most_routes source.socket.0 ]) request in
          let sent_light = ap (λ (ss : List Sent). weigh (flat_map (deliveries_of net router) ss)) sends in
          answer_lighter (request_weight net most_routes source.socket.0) weight
          (stays (ap (λ (h : Heard). routes_heard ports number (Some h)) is_rip
          ∙ ap (λ (o : Operation). elim o [ Response ↦ routes_heard ports number (Some (HeardRip source (record { operation = Response; entries = rip.entries }))) | Request ↦ [] ]) request)
          (ap (λ (h : Heard). services_heard number (Some h)) is_rip))
          (omega (arith, light, sent_light))

      queried_lighter : (source : Address) (nearest : Bool) (kind : ℕ) → m ≡ HeardSap source (Query nearest kind) → Lighter
      queried_lighter source nearest kind is_sap =
          let sent_light = ap (λ (h : Heard). weigh (flat_map (deliveries_of net router) (heard_sends ports before after number h))) is_sap in
          let light = by nearest in
          answer_lighter (query_weight net most_services nearest source.socket.0)
          (message_weighs net most_routes most_services d m of_packet ∙ ap (message_weight net most_routes most_services) is_sap)
          (stays (ap (λ (h : Heard). routes_heard ports number (Some h)) is_sap) (ap (λ (h : Heard). services_heard number (Some h)) is_sap))
          (omega (arith, sent_light, light))
        where
          one : same_node source.node broadcast ≡ false
          one = subst (λ (h : Heard). same_node (source_of h).node broadcast ≡ false) is_sap of_packet.source

          written : IsWritten source
          written = subst (λ (h : Heard). IsWritten (source_of h)) is_sap source_is

          all : List Service
          all = told_services before.services number

          services : List Service
          services = of_kind kind (told_services before.services number)

          fits : AllByRecursion (Tellable IsToldService) (of_kind kind (told_services before.services number))
          fits =
              all-filter (Tellable IsToldService) _ (told_services before.services number)
              (all_both IsTellable IsToldService (told_services before.services number)
              (told_services_fit before.services number (held_services_fit laws.readings ports most_services history (are.of_bytes router)))
              (all_told_services before.services number))

          few : length (of_kind kind (told_services before.services number)) ≤ most_services
          few =
              let fewer = length-filter (λ s. (kind == every_service) || (s.kind == kind)) (told_services before.services number) in
              let few_told = length-told_services before.services number in
              let as_many = length-map (services_held ports most_services history) (λ (h : Held ServiceOffer). h.offer) in
              let room = rooms.services ports most_services history in
              omega (arith, fewer, few_told, as_many, room)

          by : (nearest : Bool)
              → weigh (flat_map (deliveries_of net router) (sap_sends ports number (reply_to (port_at ports number) source) nearest
              (if nearest then nearest_of (of_kind kind (told_services before.services number)) else of_kind kind (told_services before.services number)))) + 1
              ≤ query_weight net most_services nearest source.socket.0
          by false = services_answer wire net laws is differ most_routes most_services router number delivery.place source one written
              (of_kind kind (told_services before.services number)) fits few
          by true =
              let these = of_kind kind (told_services before.services number) in
              nearest_answer wire net laws is differ most_routes most_services router number delivery.place source one written
              (nearest_of these) (nearest_such (Tellable IsToldService) these fits) (one_nearest these)

      -- ---- whatever was heard

      pub heard_lighter : Lighter
      heard_lighter = by m refl
        where
          by : (n : Heard) → m ≡ n → Lighter
          by (HeardRip source rip) same = of_operation rip.operation refl
            where
              of_operation : (o : Operation) → rip.operation ≡ o → Lighter
              of_operation Request request = asked_lighter source rip same request
              of_operation Response response = response_lighter (subst (λ (h : Heard). IsAnswering h) (sym same) response)
          by (HeardSap source (Query nearest kind)) same = queried_lighter source nearest kind same
          by (HeardSap source (SapResponse nearest entries)) same = response_lighter (subst (λ (h : Heard). IsAnswering h) (sym same) tt)
