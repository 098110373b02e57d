-- What is sent for a packet that isn't for the router itself: forwards, no two of them the same.
use Rattle.std.proofs.Common.{◌≡◌, refl, sym, subst, ℕ, ◌<◌, ◌⊎◌, ◌||◌, Bool, true, false, List, [], ◌∷◌, ◌++◌, length, map, Option, None, Some, Result, Ok, Err, slice_get, inl, inr, arith}
use Rattle.std.specs.List.{AllByRecursion}
use Rattle.std.specs.List.Sorted.{IsStrictlyIncreasing}
use Rattle.ipx_wire.specs.Packet.{Parts, packet_of}
use Rattle.ipx_wire.specs.Piece.{IsBytes}
use Rattle.ipx_wire.specs.declared.packet.PacketFault.{PacketFault}
use Rattle.ipx_router.specs.Facts.{routes_held, offers}
use Rattle.ipx_router.specs.Heard.{Heard, heard, heard_near}
use Rattle.ipx_router.specs.History.{Event, History, Packet, IsOnPort, IsOfBytes, running, ports_up}
use Rattle.ipx_router.specs.Packets.{IsRelayed}
use Rattle.ipx_router.specs.Port.{Port, IsPort, port_at, is_up}
use Rattle.ipx_router.specs.Relays.{Sent, IsTableRoute, relayed}
use Rattle.ipx_router.specs.Sends.{Holding, holding, heard_sends, packet_sends, sends}
use Rattle.ipx_router.specs.Why.{why, is_near, is_far, is_propagated}
use Rattle.ipx_router.specs.declared.route_offer.RouteOffer.{RouteOffer}
use Rattle.ipx_router.specs.declared.why.Why.{Why}
use Rattle.ipx_internet.specs.Different.{AreDifferent}
use Rattle.ipx_internet.proofs.lists.EachElement.{all_listed, rising_differ, differ-unmap}

-- the laws of routers that runs rest on
pub record Routing : Type 0 where
  pub listed : (ports : List Port) (up : List ℕ) (routes : List RouteOffer) (number : ℕ) (bytes : List ℕ) (p : Parts) (k : ℕ) (s : Sent)
      → IsBytes bytes → AllByRecursion (λ r. is_up up r.port ≡ true) routes
      → why ports up routes true number bytes ≡ None → packet_of bytes ≡ Ok p
      → slice_get (relayed ports up routes number p) k ≡ Some s → IsRelayed ports up routes number bytes s
  pub in_order : (ports : List Port) (up : List ℕ) (routes : List RouteOffer) (number : ℕ) (p : Parts)
      → IsStrictlyIncreasing up → IsStrictlyIncreasing (map (λ s. s.port) (relayed ports up routes number p))
  pub ups : (ports : List Port) (history : History) → IsStrictlyIncreasing (ports_up ports history) × AllByRecursion (λ j. j < length ports) (ports_up ports history)
  pub of_a_table : (ports : List Port) (capacity : ℕ) (history : History) → AllByRecursion (IsOnPort ports) history
      → AllByRecursion (IsTableRoute ports) (offers (routes_held ports capacity history))
  pub routes_up : (ports : List Port) (capacity : ℕ) (history : History)
      → AllByRecursion (λ r. is_up (ports_up ports history) r.port ≡ true) (offers (routes_held ports capacity history))
  pub sent_bytes : (ports : List Port) (most_routes most_services : ℕ) (history : History) (event : Event)
      → AllByRecursion IsPort ports → AllByRecursion (IsOnPort ports) (history ++ event ∷ []) → AllByRecursion IsOfBytes (history ++ event ∷ [])
      → AllByRecursion (λ s. IsBytes s.bytes) (sends ports most_routes most_services history event)

module _ (ports : List Port) (number : ℕ) (bytes : List ℕ) where
  -- not for the router itself
  abbrev pub goes_on : Parts → Bool
  goes_on p = is_propagated p.header || is_far (port_at ports number) p.header

  not_near : (p : Parts) → goes_on p ≡ true → is_near (port_at ports number) p.header ≡ false
  not_near p on = grind arith

  -- what is heard, by what the checks and the reader say
  abbrev heard_by : Option Why → Result Parts PacketFault → Option Heard
  heard_by o r = elim o [ Some reason ↦ None | None ↦ elim r [ Ok q ↦ heard_near (port_at ports number) q | Err fault ↦ None ] ]

  -- such a packet isn't heard
  unheard : (up : List ℕ) (runs : Bool) (p : Parts) → packet_of bytes ≡ Ok p → goes_on p ≡ true → heard ports up runs number bytes ≡ None
  unheard up runs p read on = by (why ports up [] runs number bytes) (packet_of bytes) read
    where
      by : (o : Option Why) (r : Result Parts PacketFault) → r ≡ Ok p → heard_by o r ≡ None
      by (Some reason) r e = refl
      by None r e = rw e (rw (not_near p on) refl)

  -- what is sent, by what the checks, the routing processes and the reader say
  abbrev answer : Holding → Holding → Option Why → Option Heard → Result Parts PacketFault → List Sent
  answer before after o h r =
      elim o [
        | Some reason ↦ []
        | None ↦ elim h [
          | Some message ↦ heard_sends ports before after number message
          | None ↦ elim r [ Ok q ↦ relayed ports before.up before.routes number q | Err fault ↦ [] ]
        ]
      ]

  -- so what is sent is what is listed of it, if no check drops it
  pub sends_on : (before after : Holding) (runs : Bool) (p : Parts) → packet_of bytes ≡ Ok p → goes_on p ≡ true
      → (packet_sends ports before after runs number bytes ≡ [])
      ⊎ ((why ports before.up before.routes runs number bytes ≡ None)
      × (packet_sends ports before after runs number bytes ≡ relayed ports before.up before.routes number p))
  sends_on before after runs p read on =
      by (why ports before.up before.routes runs number bytes) (heard ports before.up runs number bytes) (packet_of bytes) refl
      (unheard before.up runs p read on) read
    where
      by : (o : Option Why) (h : Option Heard) (r : Result Parts PacketFault) → why ports before.up before.routes runs number bytes ≡ o → h ≡ None → r ≡ Ok p
          → (answer before after o h r ≡ []) ⊎ ((why ports before.up before.routes runs number bytes ≡ None)
          × (answer before after o h r ≡ relayed ports before.up before.routes number p))
      by (Some reason) h r dropped none read = inl refl
      by None h r passed none read = inr (passed, rw none (rw read refl))

-- a packet that no check drops came to a router that runs
pub runs_then : (ports : List Port) (up : List ℕ) (routes : List RouteOffer) (runs : Bool) (number : ℕ) (bytes : List ℕ)
    → why ports up routes runs number bytes ≡ None → runs ≡ true
runs_then ports up routes runs number bytes passed = grind arith

-- what is sent for it
pub record AreForwards (ports : List Port) (up : List ℕ) (routes : List RouteOffer) (runs : Bool) (number : ℕ) (bytes : List ℕ) (sents : List Sent) : Type 0 where
  pub each : AllByRecursion (λ s. (runs ≡ true) × IsRelayed ports up routes number bytes s) sents
  pub differ : AreDifferent sents

module _ (laws : Routing) (ports : List Port) (most_routes most_services : ℕ) (history : History) (number : ℕ) (bytes : List ℕ) where
  pub are_forwards : IsBytes bytes → (p : Parts) → packet_of bytes ≡ Ok p → goes_on ports number bytes p ≡ true
      → AreForwards ports (ports_up ports history) (offers (routes_held ports most_routes history)) (running history) number bytes
      (sends ports most_routes most_services history (Packet number bytes))
  are_forwards are p read others =
      let up = ports_up ports history in
      let routes = offers (routes_held ports most_routes history) in
      let before = holding ports most_routes most_services history in
      let after = holding ports most_routes most_services (history ++ Packet number bytes ∷ []) in
      elim (sends_on ports number bytes before after (running history) p read others) [
        | inl none ↦ subst (λ (ss : List Sent). AreForwards ports up routes (running history) number bytes ss) (sym none) (record { each = tt; differ = tt })
        | inr (passed, same) ↦
            let runs : running history ≡ true = runs_then ports up routes (running history) number bytes passed in
            let undropped : why ports up routes true number bytes ≡ None = subst (λ (b : Bool). why ports up routes b number bytes ≡ None) runs passed in
            subst (λ (ss : List Sent). AreForwards ports up routes (running history) number bytes ss) (sym same)
            (record {
              each =
                  all_listed (λ s. (running history ≡ true) × IsRelayed ports up routes number bytes s) (relayed ports up routes number p)
                  (λ k s there. (runs, laws.listed ports up routes number bytes p k s are (laws.routes_up ports most_routes history) undropped read there));
              differ =
                  differ-unmap (λ s. s.port) (relayed ports up routes number p)
                  (rising_differ (map (λ s. s.port) (relayed ports up routes number p))
                  (laws.in_order ports up routes number p (laws.ups ports history).0));
            })
      ]
