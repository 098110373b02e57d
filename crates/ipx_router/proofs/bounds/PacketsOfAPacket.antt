-- How many packets are sent when a packet comes, by how much is held and how much it changes.
use Rattle.std.proofs.Common.{◌≡◌, refl, ap, ℕ, ◌+◌, ◌-◌, ◌<◌, ◌≤◌, max, ◌==◌, ◌||◌, Bool, true, false, if◌then◌else◌, List, [], ◌∷◌, length, Option, None, Some, Result, Ok, Err, IfSome, inl, inr, arith}
use Rattle.std.specs.List.{flat_map, list_any}
use Rattle.std.proofs.lemmas.Bool.{cases_Bool}
use Rattle.ipx_wire.specs.Forward.{forwarded}
use Rattle.ipx_wire.specs.Numbers.{most_entries}
use Rattle.ipx_wire.specs.Packet.{Parts, packet_of}
use Rattle.ipx_wire.specs.Rip.{RipParts}
use Rattle.ipx_wire.specs.Write.{packet_bytes}
use Rattle.ipx_wire.specs.declared.address.Address.{Address}
use Rattle.ipx_wire.specs.declared.packet.PacketFault.{PacketFault}
use Rattle.ipx_wire.specs.declared.rip.Operation.{Operation}
use Rattle.ipx_wire.specs.declared.rip.Operation.TheVariants.{Request, Response}
use Rattle.ipx_wire.specs.declared.sap.Sap.{Sap}
use Rattle.ipx_wire.specs.declared.sap.Sap.TheVariants.{Query, Response as SapResponse}
use Rattle.ipx_wire.specs.declared.service.Service.{Service}
use Rattle.ipx_router.specs.Bounds.{route_sheets, service_sheets}
use Rattle.ipx_router.specs.Facts.{routes_offered, routes_heard, services_heard}
use Rattle.ipx_router.specs.Heard.{Heard, HeardRip, HeardSap, heard}
use Rattle.ipx_router.specs.News.{news, news_services}
use Rattle.ipx_router.specs.Numbers.{all_routes, every_service, entries_a_page, services_a_page}
use Rattle.ipx_router.specs.Outgoing.{way_to, Way}
use Rattle.ipx_router.specs.Pages.{sheets}
use Rattle.ipx_router.specs.Port.{Port, port_at, is_up, is_local, reply_to}
use Rattle.ipx_router.specs.Relays.{Sent, propagated_on, goes_out, relayed}
use Rattle.ipx_router.specs.Sends.{Holding, rip_sends, asked, of_kind, nearest_of, news_on, heard_sends, packet_sends}
use Rattle.ipx_router.specs.Told.{told, told_services}
use Rattle.ipx_router.specs.Why.{is_propagated, why}
use Rattle.ipx_router.specs.declared.why.Why.{Why}
use Rattle.ipx_router.proofs.bounds.FewEntriesHeard.{FitsSap, Fits, heard-fits}
use Rattle.ipx_router.proofs.bounds.ItemsOfEachList.{length-filter, length-each, length-told, length-told_services, length-nearest_of}
use Rattle.ipx_router.proofs.tables.OffersOfAMessage.{FewOffers, no_offers, few_routes, few_services}
use Rattle.ipx_router.proofs.tables.HeldWasOffered.{heard_up}
use Rattle.ipx_router.proofs.bounds.PacketsOfLocalEvents.{length-rip_sends, length-sap_sends, length-broadcasts, RoutesChange, ServicesChange, length-news, length-news_services}

module _ (ports : List Port) (before after : Holding) (ups : length before.up ≤ length ports) (same : after.up ≡ before.up) where
  -- where the changes fit into one packet, at most one is sent on each port
  news_everywhere : (came came_services : ℕ) → RoutesChange ports before after came → ServicesChange ports before after came_services
      → sheets entries_a_page came + sheets services_a_page came_services ≤ 1
      → length (flat_map (news_on ports before after) after.up) ≤ length ports
  news_everywhere came came_services few_came few_services one =
      omega (arith, ups, ap length same, length-each (news_on ports before after) 1 after.up (λ number there. on number))
    where
      on : (number : ℕ) → length (news_on ports before after number) ≤ 1
      on number =
          let routes = news ports before.routes after.routes number in
          let services = news_services before.services after.services number in
          let sent = length-broadcasts ports number routes services came came_services
          (length-news ports before after number came few_came) (length-news_services ports before after number came_services few_services) in
          omega (arith, sent, one)

  -- a packet that is sent on leaves at most once on each port
  length-relayed : (number : ℕ) (p : Parts) → number < length ports → length (relayed ports before.up before.routes number p) ≤ length ports
  length-relayed number p below = elim (cases_Bool (is_propagated p.header)) [
    | inl all ↦ rw all (omega (arith, ups, length-each (propagated_on ports number p) 1 before.up (λ out there. out_of out)))
    | inr one ↦ elim (cases_Bool (is_local (port_at ports number) p.header.destination.network)) [
      | inl near ↦ rw (one, near) (omega arith)
      | inr far ↦ rw (one, far) (by_way (way_to ports before.up before.routes p.header.destination))
    ]
  ]
    where
      out_of : (out : ℕ) → length (propagated_on ports number p out) ≤ 1
      out_of out = elim (cases_Bool (goes_out ports number p out)) [ inl e ↦ rw e (omega arith) | inr e ↦ rw e (omega arith) ]

      by_way : (way : Option Way)
          → length {A = Sent} (elim way [
            | Some way ↦ record { port = way.port; link = way.link; bytes = packet_bytes (forwarded p) } ∷ []
            | None ↦ []
          ]) ≤ length ports
      by_way (Some way) = omega (arith, below)
      by_way None = omega arith

  module _ (number : ℕ) (below : number < length ports) (r s : ℕ) (few_before : length before.routes ≤ r)
      (few_services_before : length before.services ≤ s) where
    -- the most packets that are sent when a packet comes
    abbrev pub most : ℕ
    most = max (length ports) (max (route_sheets (length ports) r) (service_sheets s))

    -- the changes are not more than the offers
    pub record Follows (message : Option Heard) : Type 0 where
      pub routes : (came : ℕ) → FewOffers came (routes_heard ports number message) → RoutesChange ports before after came
      pub services : (came : ℕ) → FewOffers came (services_heard number message) → ServicesChange ports before after came

    rip_few : is_up before.up number ≡ true → (source : Address) (rip : RipParts) → length rip.entries ≤ most_entries → Follows (Some (HeardRip source rip))
        → length (heard_sends ports before after number (HeardRip source rip)) ≤ most
    rip_few there source rip fits follows = by_operation rip.operation follows.routes
      where
        by_operation : (operation : Operation)
            → ((came : ℕ) → FewOffers came (elim operation [ Response ↦ routes_offered ports number source.node rip.entries | Request ↦ [] ])
            → RoutesChange ports before after came)
            → length {A = Sent} (elim operation [
              | Response ↦ flat_map (news_on ports before after) after.up
              | Request ↦ rip_sends ports number (reply_to (port_at ports number) source) Response (asked rip.entries (told ports before.up before.routes number))
            ]) ≤ most
        by_operation Response routes =
            let came = routes (length rip.entries) (few_routes ports number source.node rip.entries) in
            let everywhere = news_everywhere (length rip.entries) 0 came (follows.services 0 no_offers) (omega (arith, fits)) in
            omega (arith, everywhere)
        by_operation Request routes =
            let all = told ports before.up before.routes number in
            let wanted = asked rip.entries all in
            let fewer : length wanted ≤ length all =
            length-filter (λ e. list_any (λ w. (w.network.0 == all_routes) || (w.network.0 == e.network.0)) rip.entries) all in
            let sent = length-rip_sends ports number (reply_to (port_at ports number) source) Response wanted (r + length ports - 1)
            (omega (arith, length-told ports before.up before.routes number there, few_before, ups, fewer)) in
            omega (arith, sent)

    abbrev answer_of : List Service → Bool → List Service
    answer_of services nearest = if nearest then nearest_of services else services

    sap_few : (source : Address) (sap : Sap) → FitsSap sap → Follows (Some (HeardSap source sap))
        → length (heard_sends ports before after number (HeardSap source sap)) ≤ most
    sap_few source (SapResponse nearest entries) fits follows =
        let came = follows.services (length entries) (few_services number source.node entries) in
        let everywhere = news_everywhere 0 (length entries) (follows.routes 0 no_offers) came (omega (arith, fits)) in
        omega (arith, everywhere)
    sap_few source (Query nearest kind) fits follows =
        let to = reply_to (port_at ports number) source in
        let all = of_kind kind (told_services before.services number) in
        let answer = answer_of all nearest in
        let sent = length-sap_sends ports number to nearest answer s (chosen nearest) in
        omega (arith, sent)
      where
        all_few : length (of_kind kind (told_services before.services number)) ≤ s
        all_few =
            omega (
              arith,
              few_services_before,
              length-told_services before.services number,
              length-filter (λ s. (kind == every_service) || (s.kind == kind)) (told_services before.services number),
            )

        chosen : (nearest : Bool) → length (answer_of (of_kind kind (told_services before.services number)) nearest) ≤ s
        chosen true = omega (arith, all_few, length-nearest_of (of_kind kind (told_services before.services number)))
        chosen false = all_few

    heard_few : is_up before.up number ≡ true → (message : Heard) → Fits message → Follows (Some message) → length (heard_sends ports before after number message) ≤ most
    heard_few there message fits follows = grind (arith, rip_few, sap_few)

    pub length-packet : (runs : Bool) (bytes : List ℕ) → Follows (heard ports before.up runs number bytes)
        → length (packet_sends ports before after runs number bytes) ≤ most
    length-packet runs bytes follows =
        judged (why ports before.up before.routes runs number bytes) (heard ports before.up runs number bytes) refl (packet_of bytes)
        (heard-fits ports before.up runs number bytes) follows
      where
        judged : (reason : Option Why) (message : Option Heard) → heard ports before.up runs number bytes ≡ message → (r : Result Parts PacketFault)
            → IfSome message Fits → Follows message
            → length {A = Sent} (elim reason [
              | Some reason ↦ []
              | None ↦ elim message [
                | Some message ↦ heard_sends ports before after number message
                | None ↦ elim r [ Ok p ↦ relayed ports before.up before.routes number p | Err fault ↦ [] ]
              ]
            ]) ≤ most
        judged (Some reason) message e r fits follows = omega arith
        judged None (Some message) e r fits follows = heard_few (heard_up ports before.up number runs bytes message e) message fits follows
        judged None None e (Ok p) fits follows = omega (arith, length-relayed number p below)
        judged None None e (Err fault) fits follows = omega arith
