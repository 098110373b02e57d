-- A delivery of which something is heard weighs as much as that: a response itself and its entries, which pay for what they bring.
use Rattle.std.proofs.Common.{◌≡◌, refl, ap, subst, ℕ, ◌+◌, ◌*◌, ◌≤◌, ◌==◌, ◌&&◌, ◌||◌, Bool, true, false, not, List, [], ◌∷◌, Option, None, Some, Result, Ok, Err, inl, inr, arith, is_some, true≢false}
use Rattle.std.specs.List.{AllByRecursion, sum_by}
use Rattle.std.proofs.lemmas.Bool.{cases_Bool, and_from, and_parts, not-true}
use Rattle.ipx_wire.specs.Packet.{Parts, packet_of}
use Rattle.ipx_wire.specs.Rip.{RipParts, rip_of}
use Rattle.ipx_wire.specs.Sap.{sap_of}
use Rattle.ipx_wire.specs.declared.rip.Operation.{Operation}
use Rattle.ipx_wire.specs.declared.rip.Operation.TheVariants.{Request, Response}
use Rattle.ipx_wire.specs.declared.rip.RipFault.{RipFault}
use Rattle.ipx_wire.specs.declared.sap.Sap.{Sap}
use Rattle.ipx_wire.specs.declared.sap.Sap.TheVariants.{Query, Response as SapResponse}
use Rattle.ipx_wire.specs.declared.sap.SapFault.{SapFault}
use Rattle.ipx_router.specs.Facts.{routes_heard, services_heard}
use Rattle.ipx_router.specs.Heard.{Heard, HeardRip, HeardSap, heard, heard_in, heard_near}
use Rattle.ipx_router.specs.Numbers.{propagated_type}
use Rattle.ipx_router.specs.Port.{Port, broadcast, port_at, is_local, same_node}
use Rattle.ipx_router.specs.Why.{first_of, when, is_near, is_propagated, is_for_rip, is_for_sap, is_nearest_response, is_nearest_reply}
use Rattle.ipx_router.specs.declared.why.Why.{Why}
use Rattle.ipx_router.proofs.verdicts.SentOnPassesChecks.{all_checks, asked}
use Rattle.ipx_router.proofs.tables.HeldWasOffered.{source_of, came_in, near_source}
use Rattle.ipx_internet.specs.Internet.{Internet, port_of}
use Rattle.ipx_internet.specs.InternetWeight.{most_hearers, routes_weight, services_weight, is_for_process, message_weight}
use Rattle.ipx_internet.specs.Queue.{Delivery}
use Rattle.ipx_internet.proofs.lists.FoundInAList.{nothing, it_is}
use Rattle.ipx_internet.proofs.packets.ResponsesAskNothing.{IsAnswering}
use Rattle.ipx_internet.proofs.weights.EntriesWeighEnough.{brings, service_brings, routes_bring, services_bring}
use Rattle.ipx_internet.proofs.weights.PagesAtTheirProcess.{w}

-- ---- what passed all checks

all_none : (list : List (Option Why)) → first_of list ≡ None → AllByRecursion (λ check. check ≡ None) list
all_none [] e = tt
all_none (Some reason ∷ list) e = absurd (true≢false (ap is_some e))
all_none (None ∷ list) e = (refl, all_none list e)

unmet : (c : Bool) (reason : Why) → when c reason ≡ None → c ≡ false
unmet c reason e = grind arith

neither : (a b : Bool) → (a || not b) ≡ false → (a ≡ false) × (b ≡ true)
neither a b e = grind arith

-- no response to a query for the nearest
abbrev pub IsGeneral : Heard → Type 0
IsGeneral (HeardRip source rip) = Unit
IsGeneral (HeardSap source (Query nearest kind)) = Unit
IsGeneral (HeardSap source (SapResponse nearest entries)) = nearest ≡ false

-- the packet of which that was heard on a port
pub record IsHeardOf (port : Port) (bytes : List ℕ) (m : Heard) : Type 0 where
  pub packet : Parts
  pub read : packet_of bytes ≡ Ok packet
  pub plain : is_propagated packet.header ≡ false
  pub local : is_local port packet.header.destination.network ≡ true
  pub process : is_for_process packet.header ≡ true
  pub says : heard_in packet ≡ Some m
  pub source : same_node (source_of m).node broadcast ≡ false
  pub general : IsGeneral m

module _ (ports : List Port) (up : List ℕ) (number : ℕ) (bytes : List ℕ) where
  abbrev port : Port
  port = port_at ports number

  is_general : (p : Parts) (m : Heard) → is_near port p.header ≡ true → is_for_process p.header ≡ true → heard_in p ≡ Some m
      → is_nearest_reply port p ≡ false → IsGeneral m
  is_general p m here process says checked = elim (cases_Bool (is_for_rip p.header)) [
    | inl rip ↦ from_rip (rip_of p.payload) (rw rip at says)
    | inr other ↦
        let either = (and_parts (not (p.header.kind == propagated_type)) (is_for_rip p.header || is_for_sap p.header) process).1 in
        let for_sap : is_for_sap p.header ≡ true = rw other at either in
        from_sap (sap_of p.payload) (rw other at says) (asked (is_near port p.header && is_for_sap p.header) _ (and_from (is_near port p.header) (is_for_sap p.header) here for_sap) checked)
  ]
    where
      from_rip : (r : Result RipParts RipFault) → elim r [ Ok rip ↦ Some (HeardRip p.header.source rip) | Err fault ↦ None ] ≡ Some m → IsGeneral m
      from_rip (Err fault) e = nothing e
      from_rip (Ok rip) e = it_is IsGeneral m (HeardRip p.header.source rip) e tt

      of_sap : (s : Sap) → is_nearest_response s ≡ false → IsGeneral (HeardSap p.header.source s)
      of_sap (Query nearest kind) off = tt
      of_sap (SapResponse nearest entries) off = off

      from_sap : (r : Result Sap SapFault) → elim r [ Ok sap ↦ Some (HeardSap p.header.source sap) | Err fault ↦ None ] ≡ Some m
          → elim r [ Ok s ↦ is_nearest_response s | Err fault ↦ false ] ≡ false → IsGeneral m
      from_sap (Err fault) e off = nothing e
      from_sap (Ok sap) e off = it_is IsGeneral m (HeardSap p.header.source sap) e (of_sap sap off)

  pub heard_of : (runs : Bool) (m : Heard) → heard ports up runs number bytes ≡ Some m → IsHeardOf port bytes m
  heard_of runs m e =
      let came = came_in ports up number runs bytes m e in
      by came.packet came.read came.passed came.near
    where
      by : (p : Parts) → packet_of bytes ≡ Ok p → first_of (all_checks ports up [] port number p) ≡ None → heard_near port p ≡ Some m → IsHeardOf port bytes m
      by p read passed near = elim (cases_Bool (is_near port p.header)) [
        | inr far ↦ nothing (rw far at near)
        | inl here ↦
            let all = all_none (all_checks ports up [] port number p) passed in
            let parts = and_parts (not (is_propagated p.header)) (is_local port p.header.destination.network) here in
            let socket = neither (p.header.kind == propagated_type) (is_for_rip p.header || is_for_sap p.header)
            (asked (is_near port p.header) _ here (unmet _ _ all.1.1.1.1.1.1.0)) in
            let process : is_for_process p.header ≡ true = rw (socket.0, socket.1) refl in
            let says : heard_in p ≡ Some m = rw here at near in
            record {
              packet = p;
              read = read;
              plain = not-true (is_propagated p.header) parts.0;
              local = parts.1;
              process = process;
              says = says;
              source = subst (λ a. same_node a.node broadcast ≡ false) (near_source port p m near) (unmet _ _ all.1.0);
              general = is_general p m here process says (unmet _ _ all.1.1.1.1.1.1.1.1.1.1.0);
            }
      ]

-- ---- what that weighs

module _ (net : Internet) (most_routes most_services : ℕ) where
  pub message_weighs : (d : Delivery) (m : Heard) → IsHeardOf (port_of net d.to) d.bytes m
      → w net most_routes most_services d ≡ message_weight net most_routes most_services m
  message_weighs d m of = grind arith

  -- its entries
  abbrev pub entries_weight : Heard → ℕ
  entries_weight (HeardRip source rip) = routes_weight net rip.entries
  entries_weight (HeardSap source (Query nearest kind)) = 0
  entries_weight (HeardSap source (SapResponse nearest entries)) = services_weight net entries

  -- a response weighs one more than they
  pub response_weighs : (m : Heard) → IsAnswering m → IsGeneral m → message_weight net most_routes most_services m ≡ 1 + entries_weight m
  response_weighs m answers general = grind arith

  -- and they pay for what they bring
  pub entries_pay : (ports : List Port) (number : ℕ) (route_shares service_shares : List ℕ) (m : Heard)
      → most_hearers net * sum_by (brings net most_routes route_shares) (routes_heard ports number (Some m))
      + most_hearers net * sum_by (service_brings net most_services service_shares) (services_heard number (Some m)) ≤ entries_weight m
  entries_pay ports number route_shares service_shares (HeardRip source rip) = by rip.operation
    where
      by : (o : Operation)
          → most_hearers net * sum_by (brings net most_routes route_shares) (elim o [
            | Response ↦ routes_heard ports number (Some (HeardRip source (record { operation = Response; entries = rip.entries })))
            | Request ↦ []
          ])
          + most_hearers net * 0 ≤ routes_weight net rip.entries
      by Response = let pays = routes_bring net most_routes route_shares ports number source.node rip.entries in omega (arith, pays)
      by Request = omega arith
  entries_pay ports number route_shares service_shares (HeardSap source (Query nearest kind)) = omega arith
  entries_pay ports number route_shares service_shares (HeardSap source (SapResponse nearest entries)) =
      let pays = services_bring net most_services service_shares number source.node entries in
      omega (arith, pays)
