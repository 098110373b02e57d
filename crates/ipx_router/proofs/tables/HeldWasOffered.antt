-- What is held was offered, and what was offered passed the checks.
use Rattle.std.proofs.Common.{arith}
use Rattle.std.proofs.Common.{rules}
use Rattle.std.proofs.lemmas.Grind.{common_steps}
use Rattle.std.proofs.Common.{◌≡◌, refl, sym, ap, subst, ℕ, ◌<◌, Bool, true, false, length, List, [], ◌∷◌, ◌++◌, Option, None, Some, Result, Ok, Err, true≢false, is_some, Ordering}
use Rattle.std.specs.List.{AllByRecursion}
use Rattle.ipx_table.specs.Reading.{Rules}
use Rattle.ipx_table.specs.Facts.{Fact, Offered, Second as SecondPassed, PortEnd, End, Marked}
use Rattle.ipx_table.specs.Alive.{alive}
use Rattle.ipx_table.specs.Accepted.{marked, marked_after, is_accepted}
use Rattle.ipx_table.specs.Stands.{put, in_order}
use Rattle.ipx_table.specs.declared.held.Held.{Held}
use Rattle.ipx_wire.specs.Packet.{Parts, packet_of}
use Rattle.ipx_wire.specs.Rip.{RipParts}
use Rattle.ipx_wire.specs.declared.address.Address.{Address}
use Rattle.ipx_wire.specs.declared.node.Node.{Node}
use Rattle.ipx_wire.specs.declared.packet.PacketFault.{PacketFault}
use Rattle.ipx_wire.specs.declared.rip.RipFault.{RipFault}
use Rattle.ipx_wire.specs.declared.rip.Operation.{Operation}
use Rattle.ipx_wire.specs.declared.sap.Sap.{Sap}
use Rattle.ipx_wire.specs.declared.sap.SapFault.{SapFault}
use Rattle.ipx_wire.specs.declared.rip.Operation.TheVariants.{Request, Response}
use Rattle.ipx_wire.specs.declared.rip.RipEntry.{RipEntry}
use Rattle.ipx_router.specs.Facts.{facts_of, facts_from, heard_after, routes_offered, routes_heard, route_facts, routes_held, services_heard, service_facts, services_held, offers}
use Rattle.ipx_router.specs.Heard.{Heard, HeardRip, HeardSap, heard, heard_near}
use Rattle.ipx_router.specs.History.{Event, History, Packet, IsOnPort, running, ports_up}
use Rattle.ipx_router.specs.Port.{Port, broadcast, port_at, is_up, same_node}
use Rattle.ipx_router.specs.Relays.{IsTableRoute}
use Rattle.ipx_router.specs.Routes.{route_rules}
use Rattle.ipx_router.specs.Services.{service_rules}
use Rattle.ipx_router.specs.Why.{checks, is_stopped, first_of, when, is_bad_source, is_down_port}
use Rattle.ipx_router.specs.declared.route_offer.RouteOffer.{RouteOffer}
use Rattle.ipx_router.specs.declared.service_offer.ServiceOffer.{ServiceOffer}
use Rattle.ipx_router.specs.declared.why.Why.{Why}
use Rattle.ipx_router.specs.declared.why.Why.TheVariants.{NotRunning, Malformed, DownPort}
use Rattle.ipx_router.proofs.verdicts.SentOnPassesChecks.{all_checks, passes}

pub all-append : {X : Type 0} (P : X → Type 0) (xs ys : List X) → AllByRecursion P xs → AllByRecursion P ys → AllByRecursion P (xs ++ ys)
all-append P xs ys one two = grind (arith, common_steps)

module _ {O : Type 0} (P : O → Type 0) where
  -- where a fact is an offer, it is such a one
  abbrev pub OfferIs : Fact O → Type 0
  OfferIs (Offered offer) = P offer
  OfferIs SecondPassed = Unit
  OfferIs (PortEnd port) = Unit
  OfferIs End = Unit

  pub all_alive : (rules : Rules O) (ms : List (Marked O)) → AllByRecursion (λ m. OfferIs m.0) ms → AllByRecursion (λ h. P h.offer) (alive rules ms)
  all_alive rules [] all = tt
  all_alive rules ((Offered offer, false) ∷ later) all = all_alive rules later all.1
  all_alive rules ((SecondPassed, m) ∷ later) all = all_alive rules later all.1
  all_alive rules ((PortEnd port, m) ∷ later) all = all_alive rules later all.1
  all_alive rules ((End, m) ∷ later) all = all_alive rules later all.1
  all_alive rules ((Offered offer, true) ∷ later) all = grind (arith, all_alive rules later all.1)

  all_marked : (rules : Rules O) (before : List (Marked O)) (facts : List (Fact O)) → AllByRecursion (λ m. OfferIs m.0) before → AllByRecursion OfferIs facts
      → AllByRecursion (λ m. OfferIs m.0) (marked_after rules before facts)
  all_marked rules before [] one all = one
  all_marked rules before (fact ∷ facts) one all =
      all_marked rules (before ++ (fact, is_accepted rules (alive rules before) fact) ∷ []) facts
      (all-append (λ m. OfferIs m.0) before ((fact, is_accepted rules (alive rules before) fact) ∷ []) one (all.0, tt)) all.1

  all_put : (by_key : O → O → Ordering) (h : Held O) (xs : List (Held O))
      → P h.offer → AllByRecursion (λ h. P h.offer) xs → AllByRecursion (λ h. P h.offer) (put by_key h xs)
  all_put by_key h [] one all = (one, tt)
  all_put by_key h (x ∷ xs) one all = grind (arith, all_put by_key h xs one all.1)

  pub all_in_order : (by_key : O → O → Ordering) (xs : List (Held O)) → AllByRecursion (λ h. P h.offer) xs → AllByRecursion (λ h. P h.offer) (in_order by_key xs)
  all_in_order by_key [] all = tt
  all_in_order by_key (x ∷ xs) all = all_put by_key x (in_order by_key xs) all.0 (all_in_order by_key xs all.1)

  pub all_offers : (xs : List (Held O)) → AllByRecursion (λ h. P h.offer) xs → AllByRecursion P (offers xs)
  all_offers [] all = tt
  all_offers (x ∷ xs) all = (all.0, all_offers xs all.1)

  pub all_held : (rules : Rules O) (facts : List (Fact O)) → AllByRecursion OfferIs facts
      → AllByRecursion P (offers (in_order rules.by_key (alive rules (marked rules facts))))
  all_held rules facts all = grind (arith, all_offers, all_in_order, all_alive, all_marked)

-- ---- what was heard passed the checks

source_passed : (ports : List Port) (up : List ℕ) (port : Port) (number : ℕ) (p : Parts) → first_of (all_checks ports up [] port number p) ≡ None
    → is_bad_source p.header ≡ false
source_passed ports up port number p e = (passes ports up [] port number p e).source

abbrev pub source_of : Heard → Address
source_of (HeardRip source rip) = source
source_of (HeardSap source sap) = source

pub nothing : {X : Type 0} {x : X} {A : Type 0} → None ≡ Some x → A
nothing e = absurd (true≢false (sym (ap is_some e)))

rip_source : (source : Address) (r : Result RipParts RipFault) (m : Heard)
    → elim r [ Ok rip ↦ Some (HeardRip source rip) | Err fault ↦ None ] ≡ Some m → source ≡ source_of m
rip_source source r m e = grind arith

sap_source : (source : Address) (s : Result Sap SapFault) (m : Heard)
    → elim s [ Ok sap ↦ Some (HeardSap source sap) | Err fault ↦ None ] ≡ Some m → source ≡ source_of m
sap_source source s m e = grind arith

pub near_source : (port : Port) (p : Parts) (m : Heard) → heard_near port p ≡ Some m → p.header.source ≡ source_of m
near_source port p m e = search (rules, nothing, rip_source, sap_source)

-- what was heard came in a packet that no check dropped
pub record CameIn (ports : List Port) (up : List ℕ) (number : ℕ) (bytes : List ℕ) (m : Heard) : Type 0 where
  pub packet : Parts
  pub read : packet_of bytes ≡ Ok packet
  pub passed : first_of (all_checks ports up [] (port_at ports number) number packet) ≡ None
  pub near : heard_near (port_at ports number) packet ≡ Some m

module _ (ports : List Port) (up : List ℕ) (number : ℕ) where
  unstopped : (bytes : List ℕ) (p : Parts) (o : Option Why) (m : Heard) → packet_of bytes ≡ Ok p → first_of (all_checks ports up [] (port_at ports number) number p) ≡ o
      → elim o [ Some reason ↦ None | None ↦ heard_near (port_at ports number) p ] ≡ Some m → CameIn ports up number bytes m
  unstopped bytes p o m r f e = grind arith

  read : (runs : Bool) (bytes : List ℕ) (r : Result Parts PacketFault) (m : Heard) → packet_of bytes ≡ r
      → elim (first_of (when (is_stopped runs) NotRunning ∷ elim r [ Ok p ↦ None | Err fault ↦ Some (Malformed fault) ]
      ∷ (elim r [ Ok p ↦ checks ports up [] (port_at ports number) p | Err fault ↦ [] ] ++ when (is_down_port up number) DownPort ∷ []))) [
        | Some reason ↦ None
        | None ↦ elim r [ Ok p ↦ heard_near (port_at ports number) p | Err fault ↦ None ]
      ] ≡ Some m
      → CameIn ports up number bytes m
  read false bytes r m f e = nothing e
  read true bytes (Err fault) m f e = nothing e
  read true bytes (Ok p) m f e = unstopped bytes p (first_of (all_checks ports up [] (port_at ports number) number p)) m f refl e

  pub came_in : (runs : Bool) (bytes : List ℕ) (m : Heard) → heard ports up runs number bytes ≡ Some m → CameIn ports up number bytes m
  came_in runs bytes m e = read runs bytes (packet_of bytes) m refl e

  -- nobody is heard who calls itself the broadcast
  heard_source : (runs : Bool) (bytes : List ℕ) (m : Heard) → heard ports up runs number bytes ≡ Some m → same_node (source_of m).node broadcast ≡ false
  heard_source runs bytes m e =
      let came = came_in runs bytes m e in
      subst (λ (a : Address). same_node a.node broadcast ≡ false) (near_source (port_at ports number) came.packet m came.near)
      (source_passed ports up (port_at ports number) number came.packet came.passed)

  -- nor on a port that is down
  pub heard_up : (runs : Bool) (bytes : List ℕ) (m : Heard) → heard ports up runs number bytes ≡ Some m → is_up up number ≡ true
  heard_up runs bytes m e =
      let came = came_in runs bytes m e in
      (passes ports up [] (port_at ports number) number came.packet came.passed).comes_up

  module _ (within : number < length ports) where
    offered_all : (node : Node) (entries : List RipEntry) → same_node node broadcast ≡ false
        → AllByRecursion (OfferIs (IsTableRoute ports)) (routes_offered ports number node entries)
    offered_all node [] one = tt
    offered_all node (entry ∷ entries) one = grind (arith, offered_all node entries one)

    by_operation : (operation : Operation) (node : Node) (entries : List RipEntry) → same_node node broadcast ≡ false
        → AllByRecursion (OfferIs (IsTableRoute ports)) (elim operation [ Response ↦ routes_offered ports number node entries | Request ↦ [] ])
    by_operation operation node entries one = grind (arith, offered_all)

    heard_all : (o : Option Heard) → ((m : Heard) → o ≡ Some m → same_node (source_of m).node broadcast ≡ false)
        → AllByRecursion (OfferIs (IsTableRoute ports)) (routes_heard ports number o)
    heard_all None sources = tt
    heard_all (Some (HeardSap source sap)) sources = tt
    heard_all (Some (HeardRip source rip)) sources = by_operation rip.operation source.node rip.entries (sources (HeardRip source rip) refl)

-- ---- over histories

-- where what each packet offers is such, what a history offers is
module _ {O : Type 0} (P : O → Type 0) (C : Event → Type 0) (ports : List Port) (offered : History → ℕ → List ℕ → List (Fact O))
    (packet : (history : History) (number : ℕ) (bytes : List ℕ) → C (Packet number bytes) → AllByRecursion (OfferIs P) (offered history number bytes)) where
  -- what an event says
  abbrev says : History → Event → List (Fact O)
  says history event = facts_of (ports_up ports history) (running history) (offered history) event

  facts_all : (history : History) (event : Event) → C event → AllByRecursion (OfferIs P) (says history event)
  facts_all history event is = grind arith

  pub history_all : (before history : History) → AllByRecursion C history → AllByRecursion (OfferIs P) (facts_from says before history)
  history_all before [] are = tt
  history_all before (event ∷ events) are =
      all-append (OfferIs P) (says before event) (facts_from says (before ++ event ∷ []) events) (facts_all before event are.0)
      (history_all (before ++ event ∷ []) events are.1)

-- ---- routes

-- what a packet offers of routes after a history
abbrev pub routes_after : List Port → History → ℕ → List ℕ → List (Fact RouteOffer)
routes_after ports history number bytes = routes_heard ports number (heard_after ports history number bytes)

-- what a packet offers of services
abbrev pub services_after : List Port → History → ℕ → List ℕ → List (Fact ServiceOffer)
services_after ports history number bytes = services_heard number (heard_after ports history number bytes)

pub routes_all : (P : RouteOffer → Type 0) (C : Event → Type 0) (ports : List Port)
    → ((history : History) (number : ℕ) (bytes : List ℕ) → C (Packet number bytes) → AllByRecursion (OfferIs P) (routes_after ports history number bytes))
    → (capacity : ℕ) (history : History) → AllByRecursion C history → AllByRecursion P (offers (routes_held ports capacity history))
routes_all P C ports packet capacity history are =
    all_held P (route_rules ports capacity) (route_facts ports history) (history_all P C ports (routes_after ports) packet [] history are)

pub services_all : (P : ServiceOffer → Type 0) (C : Event → Type 0) (ports : List Port)
    → ((history : History) (number : ℕ) (bytes : List ℕ) → C (Packet number bytes) → AllByRecursion (OfferIs P) (services_after ports history number bytes))
    → (capacity : ℕ) (history : History) → AllByRecursion C history → AllByRecursion P (offers (services_held ports capacity history))
services_all P C ports packet capacity history are =
    all_held P (service_rules ports capacity) (service_facts ports history) (history_all P C ports (services_after ports) packet [] history are)

pub tables : (ports : List Port) (capacity : ℕ) (history : History) → AllByRecursion (IsOnPort ports) history
    → AllByRecursion (IsTableRoute ports) (offers (routes_held ports capacity history))
tables ports capacity history on = search (rules, routes_all, heard_all, heard_source)
