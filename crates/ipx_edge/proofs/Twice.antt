-- What has passed a filter passes it again.
use Rattle.std.proofs.Common.{◌≡◌, ◌∙◌, refl, sym, subst, ap, ap₂, arith, ℕ, ◌-◌, ◌/◌, ◌==◌, ◌&&◌, ◌||◌, nat_lt, Bool, true, false, if◌then◌else◌, inl, inr, List, length, Option, None, Some, Ok, Err, Result}
use Rattle.std.specs.List.{filter}
use Rattle.std.proofs.lemmas.Bool.{eq-eqb, eqb-true}
use Rattle.ipx_wire.specs.Packet.{Parts, packet_of}
use Rattle.ipx_wire.specs.Rip.{operation_field, operation_of, rip_of}
use Rattle.ipx_wire.specs.Sap.{sap_of, numbered_of, response_number}
use Rattle.ipx_wire.specs.SapEntries.{sap_entries_at}
use Rattle.ipx_wire.specs.declared.header.Header.{Header}
use Rattle.ipx_wire.specs.declared.packet.PacketFault.{PacketFault}
use Rattle.ipx_wire.specs.declared.rip.Operation.{Operation}
use Rattle.ipx_wire.specs.declared.rip.Operation.TheVariants.{Request, Response as RipResponse}
use Rattle.ipx_wire.specs.declared.sap.Sap.{Sap}
use Rattle.ipx_wire.specs.declared.sap.Sap.TheVariants.{Response}
use Rattle.ipx_wire.specs.declared.sap.SapFault.{SapFault}
use Rattle.ipx_wire.specs.declared.sap.SapFault.TheVariants.{Short, NoEntry, TooMany}
use Rattle.ipx_wire.specs.declared.sap_entries.SapEntry.{SapEntry}
use Rattle.ipx_wire.proofs.Saps.{Told, sap_of-told}
use Rattle.ipx_router.specs.Port.{Port}
use Rattle.ipx_router.specs.Why.{is_near, is_for_sap}
use Rattle.ipx_edge.specs.Filtered.{is_routing, is_advertising, lists_routes, lists_services, pieces, with_kept, without, route_passes, service_passes, filtered_in, filtered}
use Rattle.ipx_edge.specs.Laws.{SameButLength}
use Rattle.ipx_edge.specs.Rules.{is_nearest_query, names_packet, permits}
use Rattle.ipx_edge.specs.declared.listing.Listed.TheVariants.{Routes as TheRoutes, Services as TheServices}
use Rattle.ipx_edge.specs.declared.rule.Rule.{Rule}
use Rattle.ipx_edge.specs.declared.rule.Way.{Way}
use Rattle.ipx_edge.specs.declared.rule.Way.TheVariants.{In, Out}
use Rattle.ipx_edge.specs.declared.rule.What.{What}
use Rattle.ipx_edge.specs.declared.rule.What.TheVariants.{Kind, OnSocket, Nearest, Routes, Services}
use Rattle.ipx_edge.proofs.Advertised.{advertises}
use Rattle.ipx_edge.proofs.Filters.{same_names, ways, both, routes_in, services_in, not_routing, no_routing, filtered_is, whole}
use Rattle.ipx_edge.proofs.Kept.{filter_twice}
use Rattle.ipx_edge.proofs.Left.{left}
use Rattle.ipx_edge.proofs.Routing.{lists, listed}

-- ---- a response asks for nothing

no_ask : (small large : Bool) (nearest : Bool) (entries : List SapEntry)
    → is_nearest_query (if small then Err NoEntry else if large then Err TooMany else Ok (Response nearest entries)) ≡ false
no_ask true large nearest entries = refl
no_ask false true nearest entries = refl
no_ask false false nearest entries = refl

response_asks_none : (nearest : Bool) (payload : List ℕ) → is_nearest_query (numbered_of (response_number nearest) payload) ≡ false
response_asks_none true payload = no_ask (nat_lt (length payload) 66) (nat_lt 513 (length payload)) true (sap_entries_at ((length payload - 2) / 64) _)
response_asks_none false payload = no_ask (nat_lt (length payload) 66) (nat_lt 513 (length payload)) false (sap_entries_at ((length payload - 2) / 64) _)

short_or : (short : Bool) (r : Result Sap SapFault) → is_nearest_query r ≡ false → is_nearest_query (if short then Err Short else r) ≡ false
short_or true r none = refl
short_or false r none = none

asks_none : (nearest : Bool) (payload : List ℕ) → operation_field payload ≡ response_number nearest → is_nearest_query (sap_of payload) ≡ false
unfolding sap_of
asks_none nearest payload is =
    short_or (nat_lt (length payload) 2) (numbered_of (operation_field payload) payload)
    (ap (λ (n : ℕ). is_nearest_query (numbered_of n payload)) is ∙ response_asks_none nearest payload)

-- the number of a response of routes is that of a general response of services
by_number : (one two : Bool) → (if one then Some Request else if two then Some RipResponse else None) ≡ Some RipResponse → two ≡ true
by_number one true e = refl
by_number one false e = grind arith

number_is : (n : ℕ) → operation_of n ≡ Some RipResponse → n ≡ 2
number_is n is = eqb-true n 2 (by_number (n == 1) (n == 2) is)

-- ---- the rules say the same

third_fails : (a b c : Bool) → c ≡ false → (a && b && c) ≡ false
third_fails true true c is = is
third_fails true false c is = refl
third_fails false b c is = refl

same_packet : (port : Port) (p q : Parts) → SameButLength p q → is_nearest_query (sap_of p.payload) ≡ false → is_nearest_query (sap_of q.payload) ≡ false
    → (what : What) → names_packet port q what ≡ names_packet port p what
same_packet port p q same one other (Kind kind) = ap (λ (h : Header). h.kind == kind) same
same_packet port p q same one other (OnSocket socket) =
    ap (λ (h : Header). (h.destination.socket.0 == socket.0) || (h.source.socket.0 == socket.0)) same
same_packet port p q same one other Nearest =
    third_fails (is_near port q.header) (is_for_sap q.header) (is_nearest_query (sap_of q.payload)) other
    ∙ sym (third_fails (is_near port p.header) (is_for_sap p.header) (is_nearest_query (sap_of p.payload)) one)
same_packet port p q same one other (Routes on from to) = refl
same_packet port p q same one other (Services on kind names) = refl

routing_too : (way : Way) (port : Port) (p q : Parts) → SameButLength p q → is_routing way port q.header ≡ is_routing way port p.header
routing_too In port p q same = ap (λ (h : Header). is_routing In port h) same
routing_too Out port p q same = ap (λ (h : Header). is_routing Out port h) same

advertising_too : (way : Way) (port : Port) (p q : Parts) → SameButLength p q → is_advertising way port q.header ≡ is_advertising way port p.header
advertising_too In port p q same = ap (λ (h : Header). is_advertising In port h) same
advertising_too Out port p q same = ap (λ (h : Header). is_advertising Out port h) same

-- entries that passed pass again
pieces_again : (passes : List ℕ → Bool) (size : ℕ) (es : List (List ℕ)) (payload new : List ℕ) → pieces size payload ≡ filter passes es
    → without passes size payload new ≡ Some new
pieces_again passes size es payload new are =
    ap (λ (xs : List (List ℕ)). with_kept (length xs) (filter passes xs) new) are
    ∙ ap (λ (xs : List (List ℕ)). with_kept (length (filter passes es)) xs new) (filter_twice passes es)
    ∙ rw (eq-eqb (length (filter passes es)) (length (filter passes es)) refl) refl

first_way : (t a b : Bool) (x y : Option (List ℕ)) (new : List ℕ) → t ≡ true → a ≡ true → x ≡ Some new
    → (if t then if a then x else if b then y else Some new else None) ≡ Some new
first_way t a b x y new one two e = rw (one, two) e

second_way : (t a b : Bool) (x y : Option (List ℕ)) (new : List ℕ) → t ≡ true → a ≡ false → b ≡ true → y ≡ Some new
    → (if t then if a then x else if b then y else Some new else None) ≡ Some new
second_way t a b x y new one two three e = rw (one, two, three) e

-- ---- each way

module _ (way : Way) (port : Port) (rules : List Rule) (bytes new : List ℕ) (p : Parts) (is : packet_of bytes ≡ Ok p) (permitted : permits (names_packet port p) rules ≡ true) where
  routes_pass : (is_routing way port p.header && lists_routes (rip_of p.payload)) ≡ true → without (route_passes way rules) 8 p.payload bytes ≡ Some new
      → filtered way port rules new ≡ Some new
  routes_pass routing e =
      let parts = both (is_routing way port p.header) (lists_routes (rip_of p.payload)) routing in
      let found = routes_in p.payload (rip_of p.payload) refl parts.1 in
      let r = found.0 in
      let l = lists p.payload r found.1 in
      let it = left TheRoutes bytes p is (route_passes way rules) l.least (omega (arith, l.most)) new e in
      let q = it.packet in
      let two : operation_field p.payload ≡ 2 = number_is (operation_field p.payload) (l.operation ∙ ap (λ (o : Operation). Some o) found.2) in
      let said = listed q.payload r.operation (ap operation_of it.operation ∙ l.operation) (omega (arith, it.least)) (omega (arith, it.most, l.most)) in
      let lists_too : lists_routes (rip_of q.payload) ≡ true = ap lists_routes said ∙ ap (λ (o : Operation). elim o [ RipResponse ↦ true | Request ↦ false ]) found.2 in
      filtered_is way port rules new q it.read
      ∙ first_way (permits (names_packet port q) rules) (is_routing way port q.header && lists_routes (rip_of q.payload))
      (is_advertising way port q.header && lists_services (sap_of q.payload)) (without (route_passes way rules) 8 q.payload new)
      (without (service_passes way rules) 64 q.payload new) new
      (same_names (names_packet port q) (names_packet port p) (same_packet port p q it.same (asks_none false p.payload two) (asks_none false q.payload (it.operation ∙ two))) rules ∙ permitted)
      (ap₂ (λ (a b : Bool). a && b) (routing_too way port p q it.same ∙ parts.0) lists_too)
      (pieces_again (route_passes way rules) 8 (pieces 8 p.payload) q.payload new it.are)

  services_pass : (is_advertising way port p.header && lists_services (sap_of p.payload)) ≡ true → without (service_passes way rules) 64 p.payload bytes ≡ Some new
      → filtered way port rules new ≡ Some new
  services_pass advertising e =
      let parts = both (is_advertising way port p.header) (lists_services (sap_of p.payload)) advertising in
      let found = services_in p.payload (sap_of p.payload) refl parts.1 in
      let nearest = found.0 in
      let l = advertises p.payload nearest found.1 found.2 in
      let it = left TheServices bytes p is (service_passes way rules) l.least l.most new e in
      let q = it.packet in
      let told : Told q.payload nearest = record { enough = it.least; within = omega (arith, it.most, l.most); number = it.operation ∙ l.operation } in
      let here = advertising_too way port p q it.same ∙ parts.0 in
      filtered_is way port rules new q it.read
      ∙ second_way (permits (names_packet port q) rules) (is_routing way port q.header && lists_routes (rip_of q.payload))
      (is_advertising way port q.header && lists_services (sap_of q.payload)) (without (route_passes way rules) 8 q.payload new)
      (without (service_passes way rules) 64 q.payload new) new
      (same_names (names_packet port q) (names_packet port p) (same_packet port p q it.same (asks_none nearest p.payload l.operation) (asks_none nearest q.payload (it.operation ∙ l.operation))) rules ∙ permitted)
      (no_routing (is_routing way port q.header) (lists_routes (rip_of q.payload)) (not_routing way port q.header here))
      (ap₂ (λ (a b : Bool). a && b) here (ap lists_services (sap_of-told q.payload nearest told)))
      (pieces_again (service_passes way rules) 64 (pieces 64 p.payload) q.payload new it.are)

twice_in : (way : Way) (port : Port) (rules : List Rule) (bytes new : List ℕ) (r : Result Parts PacketFault) → packet_of bytes ≡ r → filtered_in way port rules r bytes ≡ Some new
    → filtered way port rules bytes ≡ Some new → filtered way port rules new ≡ Some new
twice_in way port rules bytes new (Err fault) is e all = subst (λ (l : List ℕ). filtered way port rules l ≡ Some new) (whole bytes new e) all
twice_in way port rules bytes new (Ok p) is e all =
    let found = ways (permits (names_packet port p) rules) (is_routing way port p.header && lists_routes (rip_of p.payload))
    (is_advertising way port p.header && lists_services (sap_of p.payload)) (without (route_passes way rules) 8 p.payload bytes)
    (without (service_passes way rules) 64 p.payload bytes) bytes new e in
    elim found.1 [
      | inl routes ↦ routes_pass way port rules bytes new p is found.0 routes.0 routes.1
      | inr (inl services) ↦ services_pass way port rules bytes new p is found.0 services.1 services.2
      | inr (inr same) ↦ subst (λ (l : List ℕ). filtered way port rules l ≡ Some new) same.2 all
    ]

-- the definition, over what is read
filtered_reads : (way : Way) (port : Port) (rules : List Rule) (bytes : List ℕ) → filtered way port rules bytes ≡ filtered_in way port rules (packet_of bytes) bytes
unfolding filtered
filtered_reads way port rules bytes = refl

pub twice : (way : Way) (port : Port) (rules : List Rule) (bytes new : List ℕ) → filtered way port rules bytes ≡ Some new → filtered way port rules new ≡ Some new
twice way port rules bytes new e = twice_in way port rules bytes new (packet_of bytes) refl (sym (filtered_reads way port rules bytes) ∙ e) e
