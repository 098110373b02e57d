-- What a packet does to a router's state, and sends, by what is heard of it.
use Rattle.std.proofs.Common.{◌≡◌, refl, sym, ap, ◌∙◌, subst, ℕ, Bool, if◌then◌else◌, List, [], ◌∷◌, ◌++◌, Option, None, Some, Result, Ok, Err, arith, rules}
use Rattle.std.specs.List.{flat_map}
use Rattle.ipx_table.specs.Facts.{Fact}
use Rattle.ipx_table.specs.Stands.{Stands}
use Rattle.ipx_table.specs.declared.held.Held.{Held}
use Rattle.ipx_wire.specs.Forward.{forwarded}
use Rattle.ipx_wire.specs.Packet.{Parts, packet_of}
use Rattle.ipx_wire.specs.Rip.{RipParts}
use Rattle.ipx_wire.specs.Write.{packet_bytes}
use Rattle.ipx_wire.specs.declared.address.Address.{Address}
use Rattle.ipx_wire.specs.declared.network.Network.{Network}
use Rattle.ipx_wire.specs.declared.node.Node.{Node}
use Rattle.ipx_wire.specs.declared.packet.PacketFault.{PacketFault}
use Rattle.ipx_wire.specs.declared.rip.Operation.TheVariants.{Request, Response}
use Rattle.ipx_wire.specs.declared.sap.Sap.TheVariants.{Query, Response as SapResponse}
use Rattle.ipx_wire.specs.declared.sap_entries.SapEntry.{SapEntry}
use Rattle.ipx_router.specs.Facts.{routes_heard, routes_offered, services_heard, services_offered, offers}
use Rattle.ipx_router.specs.inside.Following.{Follows, holding_of, sends_between, outcome_at}
use Rattle.ipx_router.specs.Heard.{Heard, HeardRip, HeardSap, heard}
use Rattle.ipx_router.specs.History.{Packet}
use Rattle.ipx_router.specs.Outcomes.{heard_outcome}
use Rattle.ipx_router.specs.Port.{Port, port_at, reply_to}
use Rattle.ipx_router.specs.inside.Received.{IsPassed, IsDropped, IsHeard, GoesOn, IsSentOn, IsSentOnTo}
use Rattle.ipx_router.specs.Relays.{Sent, propagated_on, relayed}
use Rattle.ipx_router.specs.Routes.{route_rules}
use Rattle.ipx_router.specs.Sends.{heard_sends, news_on, rip_sends, sap_sends, asked, of_kind, nearest_of}
use Rattle.ipx_router.specs.Services.{service_rules}
use Rattle.ipx_router.specs.Stands.{State}
use Rattle.ipx_router.specs.Told.{told, told_services}
use Rattle.ipx_router.specs.Why.{is_propagated}
use Rattle.ipx_router.specs.declared.outcome.Outcome.{Outcome}
use Rattle.ipx_router.specs.declared.outcome.Outcome.TheVariants.{Dropped, Propagated, Forwarded}
use Rattle.ipx_router.specs.declared.route_offer.RouteOffer.{RouteOffer}
use Rattle.ipx_router.specs.declared.service_offer.ServiceOffer.{ServiceOffer}
use Rattle.ipx_router.specs.declared.why.Why.{Why}
use Rattle.ipx_router.proofs.histories.StateAfterEachEvent.{state_of, RoutesThen, ServicesThen, same_routes, same_services, unheard as unheard_follows}
use Rattle.ipx_router.proofs.verdicts.HeardPassesAllChecks.{unheard}

module _ (s : State) (number : ℕ) (bytes : List ℕ) where
  -- what is sent, and what becomes of it, by why it is dropped, if it is, and what is heard of it
  abbrev sends_on : Result Parts PacketFault → List Sent
  sends_on r = elim r [ Ok p ↦ relayed s.ports s.up (offers s.routes) number p | Err fault ↦ [] ]

  abbrev sends_by : State → Option Why → Option Heard → List Sent
  sends_by t o h = elim o [
    | Some reason ↦ []
    | None ↦ elim h [ Some message ↦ heard_sends s.ports (holding_of s) (holding_of t) number message | None ↦ sends_on (packet_of bytes) ]
  ]

  abbrev becomes_on : Result Parts PacketFault → Outcome
  becomes_on r = elim r [ Ok p ↦ if is_propagated p.header then Propagated else Forwarded | Err fault ↦ Forwarded ]

  abbrev outcome_by : Option Why → Option Heard → Outcome
  outcome_by o h = elim o [
    | Some reason ↦ Dropped reason
    | None ↦ elim h [ Some message ↦ heard_outcome message | None ↦ becomes_on (packet_of bytes) ]
  ]

  -- ---- dropped

  pub dropped_follows : (most_routes most_services : ℕ) (reason : Why) → IsDropped s number bytes reason → Follows most_routes most_services s s (Packet number bytes)
  dropped_follows most_routes most_services reason e =
      unheard_follows most_routes most_services s number bytes (unheard s.ports s.up (offers s.routes) number bytes s.running reason e)

  pub dropped_sends : (t : State) (reason : Why) → IsDropped s number bytes reason → sends_between s t (Packet number bytes) ≡ []
  dropped_sends t reason e = ap (λ (o : Option Why). sends_by t o (heard s.ports s.up s.running number bytes)) e

  pub dropped_outcome : (reason : Why) → IsDropped s number bytes reason → outcome_at s (Packet number bytes) ≡ Dropped reason
  dropped_outcome reason e = ap (λ (o : Option Why). outcome_by o (heard s.ports s.up s.running number bytes)) e

  -- ---- heard

  module _ (m : Heard) (passes : IsPassed s number bytes) (is : IsHeard s number bytes m) where
    pub heard_sent : (t : State) → sends_between s t (Packet number bytes) ≡ heard_sends s.ports (holding_of s) (holding_of t) number m
    heard_sent t = grind arith

    pub heard_becomes : outcome_at s (Packet number bytes) ≡ heard_outcome m
    heard_becomes = grind arith

    pub heard_follows : (most_routes most_services : ℕ) (routes : List (Held RouteOffer)) (services : List (Held ServiceOffer))
        → RoutesThen most_routes most_services s.ports s.up s.seconds s.routes s.services routes (routes_heard s.ports number (Some m))
        → ServicesThen most_routes most_services s.ports s.up s.seconds s.routes s.services services (services_heard number (Some m))
        → Follows most_routes most_services s (state_of s.ports s.running s.up s.seconds routes services) (Packet number bytes)
    heard_follows most_routes most_services routes services r k = grind arith

  -- ---- sent on

  module _ (p : Parts) (on : GoesOn s number bytes p) where
    pub onward_follows : (most_routes most_services : ℕ) → Follows most_routes most_services s s (Packet number bytes)
    onward_follows most_routes most_services = unheard_follows most_routes most_services s number bytes on.unheard

    pub onward_sent : (t : State) → sends_between s t (Packet number bytes) ≡ relayed s.ports s.up (offers s.routes) number p
    onward_sent t = grind arith

    pub onward_becomes : outcome_at s (Packet number bytes) ≡ (if is_propagated p.header then Propagated else Forwarded)
    onward_becomes = grind arith

-- ---- each kind of message, over what its callee is given

module _ (most_routes most_services : ℕ) (s : State) (number : ℕ) (bytes : List ℕ) (ports : List Port) (up : List ℕ) (as_ports : ports ≡ s.ports) (as_up : up ≡ s.up) (source : Address)
    (passes : IsPassed s number bytes) where
  module _ (rip : RipParts) (is : IsHeard s number bytes (HeardRip source rip)) where
    -- a response of routing information
    module _ (says : rip.operation ≡ Response) (routes : List (Held RouteOffer)) where
      pub rip_follows : ((facts : List (Fact RouteOffer)) → Stands (route_rules ports most_routes) s.routes facts
          → Stands (route_rules ports most_routes) routes (facts ++ routes_offered ports number source.node rip.entries))
          → Follows most_routes most_services s (state_of s.ports s.running s.up s.seconds routes s.services) (Packet number bytes)
      rip_follows stand =
          heard_follows s number bytes (HeardRip source rip) passes is most_routes most_services routes s.services
          (λ facts stands. rw says (those_then facts stands)) (same_services most_routes most_services s.ports s.up s.seconds s.routes s.services)
        where
          those_then : (facts : List (Fact RouteOffer)) → Stands (route_rules s.ports most_routes) s.routes facts
              → Stands (route_rules s.ports most_routes) routes (facts ++ routes_offered s.ports number source.node rip.entries)
          those_then = subst (λ (those : List Port). (facts : List (Fact RouteOffer)) → Stands (route_rules those most_routes) s.routes facts
              → Stands (route_rules those most_routes) routes (facts ++ routes_offered those number source.node rip.entries)) as_ports stand

      pub rip_sent : flat_map (news_on ports (record { up = up; routes = offers s.routes; services = offers s.services })
          (record { up = up; routes = offers routes; services = offers s.services })) up
          ≡ sends_between s (state_of s.ports s.running s.up s.seconds routes s.services) (Packet number bytes)
      rip_sent = grind arith

    -- a request
    module _ (asks : rip.operation ≡ Request) where
      pub request_follows : Follows most_routes most_services s s (Packet number bytes)
      request_follows = search (rules, heard_follows, same_routes, same_services)

      pub request_sent : rip_sends ports number (reply_to (port_at ports number) source) Response (asked rip.entries (told ports up (offers s.routes) number))
          ≡ sends_between s s (Packet number bytes)
      request_sent = rw (as_ports, as_up) (sym (heard_sent s number bytes (HeardRip source rip) passes is s ∙ rw asks refl))

  -- a response of service advertising
  module _ (nearest : Bool) (entries : List SapEntry) (is : IsHeard s number bytes (HeardSap source (SapResponse nearest entries))) (services : List (Held ServiceOffer)) where
    pub sap_follows : ((facts : List (Fact ServiceOffer)) → Stands (service_rules ports most_services) s.services facts
        → Stands (service_rules ports most_services) services (facts ++ services_offered number source.node entries))
        → Follows most_routes most_services s (state_of s.ports s.running s.up s.seconds s.routes services) (Packet number bytes)
    sap_follows stand = search (rules, heard_follows, same_routes)

    pub sap_sent : flat_map (news_on ports (record { up = up; routes = offers s.routes; services = offers s.services })
        (record { up = up; routes = offers s.routes; services = offers services })) up
        ≡ sends_between s (state_of s.ports s.running s.up s.seconds s.routes services) (Packet number bytes)
    sap_sent = grind arith

  -- a query
  module _ (nearest : Bool) (kind : ℕ) (is : IsHeard s number bytes (HeardSap source (Query nearest kind))) where
    pub query_follows : Follows most_routes most_services s s (Packet number bytes)
    query_follows = search (rules, heard_follows, same_routes, same_services)

    pub query_sent : (let found = of_kind kind (told_services (offers s.services) number) in
        sap_sends ports number (reply_to (port_at ports number) source) nearest (if nearest then nearest_of found else found))
        ≡ sends_between s s (Packet number bytes)
    query_sent = rw as_ports (sym (heard_sent s number bytes (HeardSap source (Query nearest kind)) passes is s))

-- ---- each way on

module _ (s : State) (number : ℕ) (bytes : List ℕ) (ports : List Port) (up : List ℕ) (as_ports : ports ≡ s.ports) (as_up : up ≡ s.up) (p : Parts) where
  pub propagated_sent : (networks : List Network) → IsSentOn s number bytes p networks → flat_map (propagated_on ports number p) up ≡ sends_between s s (Packet number bytes)
  propagated_sent networks on = grind arith

  pub forwarded_sent : (out : ℕ) (link : Node) → IsSentOnTo s number bytes p out link
      → record { port = out; link = link; bytes = packet_bytes (forwarded p) } ∷ [] ≡ sends_between s s (Packet number bytes)
  forwarded_sent out link on = grind arith

  pub forwarded_becomes : (out : ℕ) (link : Node) → IsSentOnTo s number bytes p out link → outcome_at s (Packet number bytes) ≡ Forwarded
  forwarded_becomes out link on = grind arith
