-- What a filter lets pass, by its rules.
use Rattle.std.proofs.Common.{◌≡◌, ◌∙◌, refl, sym, ap, ap₂, arith, ℕ, ◌-◌, ◌/◌, ◌==◌, ◌&&◌, Bool, true, false, if◌then◌else◌, ◌⊎◌, inl, inr, List, [], ◌∷◌, ◌++◌, length, drop, Option, None, Some, Ok, Err, Result}
use Rattle.std.specs.List.{filter, AllByRecursion}
use Rattle.std.proofs.lemmas.Bool.{cases_eq, ne_eqb, eq-eqb, false≢true}
use Rattle.ipx_wire.specs.Numbers.{rip_socket, sap_socket}
use Rattle.ipx_wire.specs.Packet.{Parts, packet_of}
use Rattle.ipx_wire.specs.Rip.{RipParts, entry_at, rip_of}
use Rattle.ipx_wire.specs.Sap.{sap_of}
use Rattle.ipx_wire.specs.SapEntries.{sap_entry_at}
use Rattle.ipx_wire.specs.declared.header.Header.{Header}
use Rattle.ipx_wire.specs.declared.packet.PacketFault.{PacketFault}
use Rattle.ipx_wire.specs.declared.rip.Operation.{Operation}
use Rattle.ipx_wire.specs.declared.rip.Operation.TheVariants.{Request, Response as RipResponse}
use Rattle.ipx_wire.specs.declared.rip.RipFault.{RipFault}
use Rattle.ipx_wire.specs.declared.sap.Sap.{Sap}
use Rattle.ipx_wire.specs.declared.sap.Sap.TheVariants.{Query, Response}
use Rattle.ipx_wire.specs.declared.sap.SapFault.{SapFault}
use Rattle.ipx_wire.specs.declared.sap_entries.SapEntry.{SapEntry}
use Rattle.ipx_wire.proofs.Items.{length-items}
use Rattle.ipx_router.specs.Port.{Port}
use Rattle.ipx_router.specs.Why.{is_near, is_for_rip, is_for_sap, is_own_echo}
use Rattle.ipx_edge.specs.Filtered.{is_routing, is_advertising, lists_routes, lists_services, pieces, with_kept, without, route_passes, service_passes, filtered_in, filtered}
use Rattle.ipx_edge.specs.Laws.{RoutesLeft, ServicesLeft, NamesNothing}
use Rattle.ipx_edge.specs.Rules.{names_packet, names_route, names_service, permits}
use Rattle.ipx_edge.specs.declared.rule.Rule.{Rule}
use Rattle.ipx_edge.specs.declared.rule.Way.{Way}
use Rattle.ipx_edge.specs.declared.rule.Way.TheVariants.{In, Out}
use Rattle.ipx_edge.specs.declared.rule.What.{What}
use Rattle.ipx_edge.proofs.Advertised.{advertises}
use Rattle.ipx_edge.proofs.Kept.{filter_none}
use Rattle.ipx_edge.proofs.Left.{routes_left, services_left}
use Rattle.ipx_edge.proofs.Routing.{lists}

-- ---- which rule decides

pub first : (names : What → Bool) (before after : List Rule) (rule : Rule) → AllByRecursion (λ r. names r.what ≡ false) before → names rule.what ≡ true
    → permits names (before ++ rule ∷ after) ≡ rule.permits
first names [] after rule others is = rw is refl
first names (r ∷ before) after rule others is = rw others.0 (first names before after rule others.1 is)

pub unnamed : (names : What → Bool) (rules : List Rule) → AllByRecursion (λ r. names r.what ≡ false) rules → permits names rules ≡ true
unnamed names [] others = refl
unnamed names (rule ∷ rules) others = rw others.0 (unnamed names rules others.1)

pub same_names : (one other : What → Bool) → ((what : What) → one what ≡ other what) → (rules : List Rule) → permits one rules ≡ permits other rules
same_names one other same [] = refl
same_names one other same (rule ∷ rules) =
    ap₂ (λ (a b : Bool). if a then rule.permits else b) (same rule.what) (same_names one other same rules)

-- ---- one of four ways

pub whole : (bytes new : List ℕ) → Some bytes ≡ Some new → bytes ≡ new
whole bytes new e = grind arith

nothing : (new : List ℕ) → (let n : Option (List ℕ) = None in n) ≡ Some new → ⊥
nothing new e = grind arith

pub ways : (t a b : Bool) (x y : Option (List ℕ)) (bytes new : List ℕ)
    → (if t then if a then x else if b then y else Some bytes else None) ≡ Some new
    → (t ≡ true) × (((a ≡ true) × (x ≡ Some new)) ⊎ (((a ≡ false) × (b ≡ true) × (y ≡ Some new)) ⊎ ((a ≡ false) × (b ≡ false) × (bytes ≡ new))))
ways true true b x y bytes new e = (refl, inl (refl, e))
ways true false true x y bytes new e = (refl, inr (inl (refl, refl, e)))
ways true false false x y bytes new e = (refl, inr (inr (refl, refl, whole bytes new e)))
ways false a b x y bytes new e = absurd (nothing new e)

pub both : (a b : Bool) → (a && b) ≡ true → (a ≡ true) × (b ≡ true)
both true true is = (refl, refl)
both true false is = absurd (false≢true is)
both false b is = absurd (false≢true is)

-- ---- what lists routes, and what lists services

by_operation : (o : Operation) → elim o [ RipResponse ↦ true | Request ↦ false ] ≡ true → o ≡ RipResponse
by_operation RipResponse is = refl
by_operation Request is = absurd (false≢true is)

pub routes_in : (payload : List ℕ) (r : Result RipParts RipFault) → rip_of payload ≡ r → lists_routes r ≡ true
    → (p : RipParts) × (rip_of payload ≡ Ok p) × (p.operation ≡ RipResponse)
routes_in payload (Ok p) is true_is = (p, is, by_operation p.operation true_is)
routes_in payload (Err fault) is true_is = absurd (false≢true true_is)

pub services_in : (payload : List ℕ) (r : Result Sap SapFault) → sap_of payload ≡ r → lists_services r ≡ true
    → (nearest : Bool) × (entries : List SapEntry) × (sap_of payload ≡ Ok (Response nearest entries))
services_in payload (Ok (Query nearest kind)) is true_is = absurd (false≢true true_is)
services_in payload (Ok (Response nearest entries)) is true_is = (nearest, entries, is)
services_in payload (Err fault) is true_is = absurd (false≢true true_is)

-- ---- what no rule names

all_pass : (passes : List ℕ → Bool) (size : ℕ) (payload bytes : List ℕ) → AllByRecursion (λ e. passes e ≡ true) (pieces size payload)
    → without passes size payload bytes ≡ Some bytes
all_pass passes size payload bytes each =
    ap (λ (es : List (List ℕ)). with_kept (length (pieces size payload)) es bytes) (filter_none passes (pieces size payload) each)
    ∙ rw (eq-eqb (length (pieces size payload)) (length (pieces size payload)) refl) refl

each_passes : (P Q : List ℕ → Type 0) (es : List (List ℕ)) → ((e : List ℕ) → P e → Q e) → AllByRecursion P es → AllByRecursion Q es
each_passes P Q [] step all = tt
each_passes P Q (e ∷ es) step all = (step e all.0, each_passes P Q es step all.1)

all_ways : (t a b : Bool) (x y : Option (List ℕ)) (bytes : List ℕ) → t ≡ true → x ≡ Some bytes → y ≡ Some bytes
    → (if t then if a then x else if b then y else Some bytes else None) ≡ Some bytes
all_ways true true b x y bytes is one other = one
all_ways true false true x y bytes is one other = other
all_ways true false false x y bytes is one other = refl
all_ways false a b x y bytes is one other = absurd (false≢true is)

pub unnamed_passes : (way : Way) (port : Port) (rules : List Rule) (bytes : List ℕ) (p : Parts) → packet_of bytes ≡ Ok p → NamesNothing way port rules p
    → filtered way port rules bytes ≡ Some bytes
unfolding filtered
unnamed_passes way port rules bytes p is none =
    ap (λ (r : Result Parts PacketFault). filtered_in way port rules r bytes) is
    ∙ all_ways (permits (names_packet port p) rules) (is_routing way port p.header && lists_routes (rip_of p.payload)) (is_advertising way port p.header && lists_services (sap_of p.payload))
    (without (route_passes way rules) 8 p.payload bytes) (without (service_passes way rules) 64 p.payload bytes) bytes
    (unnamed (names_packet port p) rules none.packet)
    (all_pass (route_passes way rules) 8 p.payload bytes
    (each_passes (λ e. AllByRecursion (λ rule. names_route way (entry_at e 0) rule.what ≡ false) rules) (λ e. route_passes way rules e ≡ true) (pieces 8 p.payload)
    (λ e others. unnamed (names_route way (entry_at e 0)) rules others) none.routes))
    (all_pass (service_passes way rules) 64 p.payload bytes
    (each_passes (λ e. AllByRecursion (λ rule. names_service way (sap_entry_at e) rule.what ≡ false) rules) (λ e. service_passes way rules e ≡ true) (pieces 64 p.payload)
    (λ e others. unnamed (names_service way (sap_entry_at e)) rules others) none.services))

-- ---- what passes of a response is read again

pub filtered_is : (way : Way) (port : Port) (rules : List Rule) (bytes : List ℕ) (p : Parts) → packet_of bytes ≡ Ok p
    → filtered way port rules bytes ≡ filtered_in way port rules (Ok p) bytes
unfolding filtered
filtered_is way port rules bytes p is = ap (λ (r : Result Parts PacketFault). filtered_in way port rules r bytes) is

routes_first : (t a b : Bool) (x y : Option (List ℕ)) (bytes new : List ℕ) → a ≡ true
    → (if t then if a then x else if b then y else Some bytes else None) ≡ Some new → x ≡ Some new
routes_first true true b x y bytes new is e = e
routes_first true false b x y bytes new is e = absurd (false≢true is)
routes_first false a b x y bytes new is e = absurd (nothing new e)

pub routes_again : (way : Way) (port : Port) (rules : List Rule) (bytes : List ℕ) (p : Parts) (r : RipParts) (new : List ℕ) → packet_of bytes ≡ Ok p
    → is_routing way port p.header ≡ true → rip_of p.payload ≡ Ok r → r.operation ≡ RipResponse → filtered way port rules bytes ≡ Some new
    → RoutesLeft way rules p r new
routes_again way port rules bytes p r new is routing said response e =
    let listing : (is_routing way port p.header && lists_routes (rip_of p.payload)) ≡ true =
    ap₂ (λ (a b : Bool). a && b) routing (ap lists_routes said ∙ ap (λ (o : Operation). elim o [ RipResponse ↦ true | Request ↦ false ]) response) in
    routes_left way rules bytes p r new is said
    (routes_first (permits (names_packet port p) rules) (is_routing way port p.header && lists_routes (rip_of p.payload))
    (is_advertising way port p.header && lists_services (sap_of p.payload)) (without (route_passes way rules) 8 p.payload bytes)
    (without (service_passes way rules) 64 p.payload bytes) bytes new listing (sym (filtered_is way port rules bytes p is) ∙ e))

-- a socket is that of one process
pub other_socket : (n : ℕ) → (n == sap_socket) ≡ true → (n == rip_socket) ≡ false
other_socket n is = elim (cases_eq n sap_socket) [
  | inl e ↦ ne_eqb n rip_socket (λ other. absurd (omega (arith, e, other)))
  | inr other ↦ absurd (false≢true (sym (ne_eqb n sap_socket other) ∙ is))
]

fails : (a b : Bool) → b ≡ false → (a && b) ≡ false
fails true b is = is
fails false b is = refl

pub not_routing : (way : Way) (port : Port) (h : Header) → is_advertising way port h ≡ true → is_routing way port h ≡ false
not_routing In port h is = fails (is_near port h) (is_for_rip h) (other_socket h.destination.socket.0 (both (is_near port h) (is_for_sap h) is).1)
not_routing Out port h is =
    fails (is_own_echo port h) (h.source.socket.0 == rip_socket) (other_socket h.source.socket.0 (both (is_own_echo port h) (h.source.socket.0 == sap_socket) is).1)

services_next : (t a b : Bool) (x y : Option (List ℕ)) (bytes new : List ℕ) → a ≡ false → b ≡ true
    → (if t then if a then x else if b then y else Some bytes else None) ≡ Some new → y ≡ Some new
services_next true false true x y bytes new no_is yes_is e = e
services_next true true b x y bytes new no_is yes_is e = absurd (false≢true (sym no_is))
services_next true false false x y bytes new no_is yes_is e = absurd (false≢true yes_is)
services_next false a b x y bytes new no_is yes_is e = absurd (nothing new e)

pub no_routing : (a b : Bool) → a ≡ false → (a && b) ≡ false
no_routing a b is = rw is refl

pub services_again : (way : Way) (port : Port) (rules : List Rule) (bytes : List ℕ) (p : Parts) (nearest : Bool) (entries : List SapEntry) (new : List ℕ) → packet_of bytes ≡ Ok p
    → is_advertising way port p.header ≡ true → sap_of p.payload ≡ Ok (Response nearest entries) → filtered way port rules bytes ≡ Some new
    → ServicesLeft way rules p nearest entries new
services_again way port rules bytes p nearest entries new is advertising said e =
    let listing : (is_advertising way port p.header && lists_services (sap_of p.payload)) ≡ true = ap₂ (λ (a b : Bool). a && b) advertising (ap lists_services said) in
    services_left way rules bytes p nearest entries new is said
    (services_next (permits (names_packet port p) rules) (is_routing way port p.header && lists_routes (rip_of p.payload))
    (is_advertising way port p.header && lists_services (sap_of p.payload)) (without (route_passes way rules) 8 p.payload bytes)
    (without (service_passes way rules) 64 p.payload bytes) bytes new
    (no_routing (is_routing way port p.header) (lists_routes (rip_of p.payload)) (not_routing way port p.header advertising)) listing
    (sym (filtered_is way port rules bytes p is) ∙ e))

-- ---- what is denied, and what is empty

pub denied : (way : Way) (port : Port) (rules : List Rule) (bytes : List ℕ) (p : Parts) → packet_of bytes ≡ Ok p → permits (names_packet port p) rules ≡ false
    → filtered way port rules bytes ≡ None
denied way port rules bytes p is no_is = filtered_is way port rules bytes p is ∙ rw no_is refl

no_routes : (payload : List ℕ) (r : RipParts) → rip_of payload ≡ Ok r → r.entries ≡ [] → ⊥
no_routes payload r said none =
    let l = lists payload r said in
    let n = (length payload - 2) / 8 in
    let count : n ≡ length r.entries = sym (length-items (λ b. entry_at b 0) 8 n (drop 2 payload)) ∙ ap (λ (x : RipParts). length x.entries) (sym l.are) in
    let zero_is : length r.entries ≡ 0 = ap length none in
    omega (arith, count, zero_is, l.least)

no_services : (payload : List ℕ) (nearest : Bool) (entries : List SapEntry) → sap_of payload ≡ Ok (Response nearest entries) → entries ≡ [] → ⊥
no_services payload nearest entries said none =
    let l = advertises payload nearest entries said in
    let n = (length payload - 2) / 64 in
    let count : n ≡ length entries = sym (length-items sap_entry_at 64 n (drop 2 payload)) ∙ ap length (sym l.are) in
    let zero_is : length entries ≡ 0 = ap length none in
    omega (arith, count, zero_is, l.least)

none_unless : (o : Option (List ℕ)) → ((new : List ℕ) → o ≡ Some new → ⊥) → o ≡ None
none_unless None some = refl
none_unless (Some new) some = absurd (some new refl)

pub no_routes_left : (way : Way) (port : Port) (rules : List Rule) (bytes : List ℕ) (p : Parts) (r : RipParts) → packet_of bytes ≡ Ok p
    → is_routing way port p.header ≡ true → rip_of p.payload ≡ Ok r → r.operation ≡ RipResponse → filter (λ e. permits (names_route way e) rules) r.entries ≡ []
    → filtered way port rules bytes ≡ None
no_routes_left way port rules bytes p r is routing said response none =
    none_unless (filtered way port rules bytes)
    (λ new e.
    let it = routes_again way port rules bytes p r new is routing said response e in
    no_routes it.packet.payload (record { operation = r.operation; entries = filter (λ e. permits (names_route way e) rules) r.entries }) it.routes none)

pub no_services_left : (way : Way) (port : Port) (rules : List Rule) (bytes : List ℕ) (p : Parts) (nearest : Bool) (entries : List SapEntry) → packet_of bytes ≡ Ok p
    → is_advertising way port p.header ≡ true → sap_of p.payload ≡ Ok (Response nearest entries) → filter (λ e. permits (names_service way e) rules) entries ≡ []
    → filtered way port rules bytes ≡ None
no_services_left way port rules bytes p nearest entries is advertising said none =
    none_unless (filtered way port rules bytes)
    (λ new e.
    let it = services_again way port rules bytes p nearest entries new is advertising said e in
    no_services it.packet.payload nearest (filter (λ e. permits (names_service way e) rules) entries) it.services none)
