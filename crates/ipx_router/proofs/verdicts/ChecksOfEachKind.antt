-- The checks of a packet, once its kind is known.
use Rattle.std.proofs.Common.{arith}
use Rattle.std.proofs.Common.{rules}
use Rattle.std.proofs.Common.{◌≡◌, refl, sym, ◌∙◌, ◌&&◌, ◌==◌, if◌then◌else◌, not, ℕ, true, false, List, [], ◌∷◌, ◌++◌, Option, None, Some, Result, Ok, Err}
use Rattle.std.proofs.lemmas.Bool.{and_parts, not-true, eqb-true}
use Rattle.ipx_wire.specs.Crossed.{IsCrossed, crossed_of, is_among}
use Rattle.ipx_wire.specs.Packet.{Parts}
use Rattle.ipx_wire.specs.Rip.{rip_of}
use Rattle.ipx_wire.specs.Sap.{sap_of}
use Rattle.ipx_wire.specs.declared.sap.Sap.{Sap}
use Rattle.ipx_wire.specs.declared.sap.SapFault.{SapFault}
use Rattle.ipx_wire.specs.declared.header.Header.{Header}
use Rattle.ipx_wire.specs.declared.network.Network.{Network}
use Rattle.ipx_router.specs.Checks.{relay_checks}
use Rattle.ipx_router.specs.inside.CheckGroups.{source_checks, propagated_checks, is_for_other, process_checks, rip_why, sap_why, data_why, far_checks, IsListed}
use Rattle.ipx_router.specs.Numbers.{rip_socket, sap_socket}
use Rattle.ipx_router.specs.Port.{Port, is_local}
use Rattle.ipx_router.specs.Why.{when, first_of, checks, is_propagated, is_near, is_far, is_for_rip, is_for_sap, is_nearest_response}
use Rattle.ipx_router.specs.declared.route_offer.RouteOffer.{RouteOffer}
use Rattle.ipx_router.specs.declared.why.Why.{Why}
use Rattle.ipx_router.specs.declared.why.Why.TheVariants.{CrossedSeen, Elsewhere, BadSap, NearestReply}
use Rattle.ipx_router.proofs.relays.ListedIsRelated.{networks_listed}
use Rattle.ipx_router.proofs.tables.HeldWasOffered.{nothing}

-- ---- lists of checks

-- the first reason of a list is that of a longer one
pub first_front : (a b : List (Option Why)) (why : Why) → first_of a ≡ Some why → first_of (a ++ b) ≡ Some why
first_front [] b why e = nothing e
first_front (Some w ∷ a) b why e = e
first_front (None ∷ a) b why e = first_front a b why e

-- where none of a list holds, those behind it decide
pub first_behind : (a b : List (Option Why)) → first_of a ≡ None → first_of (a ++ b) ≡ first_of b
first_behind [] b e = refl
first_behind (Some w ∷ a) b e = nothing (sym e)
first_behind (None ∷ a) b e = first_behind a b e

-- those behind say nothing where none of them holds
pub none_behind : (a b : List (Option Why)) → first_of b ≡ None → first_of (a ++ b) ≡ first_of a
none_behind [] b e = e
none_behind (Some w ∷ a) b e = refl
none_behind (None ∷ a) b e = none_behind a b e

-- nor do those between
pub none_between : (a b c : List (Option Why)) → first_of b ≡ None → first_of (a ++ b ++ c) ≡ first_of (a ++ c)
none_between [] b c e = first_behind b c e
none_between (Some w ∷ a) b c e = refl
none_between (None ∷ a) b c e = none_between a b c e

-- behind one front, lists with one reason have one
pub same_front : (a b c : List (Option Why)) → first_of b ≡ first_of c → first_of (a ++ b) ≡ first_of (a ++ c)
same_front [] b c e = e
same_front (Some w ∷ a) b c e = refl
same_front (None ∷ a) b c e = same_front a b c e

-- ---- by kinds

-- neither propagated nor for the port's own network
pub is_far-parts : (port : Port) (h : Header) → is_propagated h ≡ false → is_local port h.destination.network ≡ false → is_far port h ≡ true
is_far-parts port h one beyond = rw (one, beyond) refl

-- not propagated, and for the port's own network
pub is_near-parts : (port : Port) (h : Header) → is_propagated h ≡ false → is_local port h.destination.network ≡ true → is_near port h ≡ true
is_near-parts port h one here = rw (one, here) refl

module _ (ports : List Port) (up : List ℕ) (routes : List RouteOffer) (port : Port) (p : Parts) where
  -- of a propagated packet
  pub when_propagated : is_propagated p.header ≡ true
      → first_of (relay_checks ports up routes port p) ≡ first_of (source_checks port p.header ++ propagated_checks port p)
  when_propagated all = rw all (none_behind (source_checks port p.header ++ propagated_checks port p) (None ∷ None ∷ None ∷ None ∷ None ∷ []) refl)

  -- of a near packet
  pub when_near : is_near port p.header ≡ true
      → first_of (relay_checks ports up routes port p) ≡ first_of (source_checks port p.header ++ when (is_for_other port p.header) Elsewhere ∷ [])
  when_near near = grind (arith, and_parts, not-true, none_behind, none_between)

  -- of a far packet
  pub when_far : is_far port p.header ≡ true
      → first_of (relay_checks ports up routes port p) ≡ first_of (source_checks port p.header ++ far_checks ports up routes p.header)
  when_far far = grind (arith, and_parts, not-true, none_between)

-- ---- all checks of a packet, by kinds

-- a socket is that of one process only
one_process : (socket : ℕ) → (socket == rip_socket) ≡ true → (socket == sap_socket) ≡ false
one_process socket e = rw (eqb-true socket rip_socket e) refl

-- of service advertising two checks ask
said_sap : (a b : Option Why) (r : Result Sap SapFault)
    → first_of (a ∷ b ∷ None ∷ elim r [ Ok sap ↦ None | Err fault ↦ Some (BadSap fault) ]
    ∷ when (elim r [ Ok sap ↦ is_nearest_response sap | Err fault ↦ false ]) NearestReply ∷ [])
    ≡ first_of (a ∷ b ∷ sap_why r ∷ [])
said_sap a b r = grind arith

-- the checks of its data, which are asked one after another
abbrev data_checks : Parts → List (Option Why)
data_checks p =
    (if is_for_rip p.header then rip_why (rip_of p.payload) else None)
    ∷ (if is_for_sap p.header then elim (sap_of p.payload) [ Ok sap ↦ None | Err fault ↦ Some (BadSap fault) ] else None)
    ∷ when (is_for_sap p.header && elim (sap_of p.payload) [ Ok sap ↦ is_nearest_response sap | Err fault ↦ false ]) NearestReply
    ∷ []

-- they say what its data say, once a near packet is for a process
said : (port : Port) (p : Parts) → first_of (process_checks port p.header ++ data_checks p) ≡ first_of (process_checks port p.header ++ data_why p ∷ [])
said port p = search (rules, one_process, none_behind, said_sap)

module _ (ports : List Port) (up : List ℕ) (routes : List RouteOffer) (port : Port) (p : Parts) where
  pub all_propagated : is_propagated p.header ≡ true
      → first_of (checks ports up routes port p) ≡ first_of (source_checks port p.header ++ propagated_checks port p)
  all_propagated all =
      rw all
      (none_behind (source_checks port p.header ++ propagated_checks port p)
      (None ∷ None ∷ None ∷ None ∷ None ∷ None ∷ None ∷ None ∷ None ∷ None ∷ []) refl)

  pub all_far : is_far port p.header ≡ true
      → first_of (checks ports up routes port p) ≡ first_of (source_checks port p.header ++ far_checks ports up routes p.header)
  all_far far = search (rules, and_parts, not-true, none_between)

  -- behind its node come its process and its data
  pub all_near : is_near port p.header ≡ true
      → first_of (checks ports up routes port p)
      ≡ first_of ((source_checks port p.header ++ when (is_for_other port p.header) Elsewhere ∷ []) ++ process_checks port p.header ++ data_why p ∷ [])
  all_near near =
      let parts = and_parts (not (is_propagated p.header)) (is_local port p.header.destination.network) near in
      let one = not-true (is_propagated p.header) parts.0 in
      let here = parts.1 in
      let node = when (is_for_other port p.header) Elsewhere in
      let process = process_checks port p.header in
      rw (one, here)
      (none_behind (source_checks port p.header ++ None ∷ None ∷ None ∷ node ∷ process ++ data_checks p) (None ∷ None ∷ None ∷ None ∷ []) refl
      ∙ none_between (source_checks port p.header) (None ∷ None ∷ None ∷ []) (node ∷ process ++ data_checks p) refl
      ∙ same_front (source_checks port p.header ++ node ∷ []) (process ++ data_checks p) (process ++ data_why p ∷ []) (said port p))

-- ---- propagated packets

-- what was read of the data are the networks crossed
pub listed : (p : Parts) (h : Header) (payload : List ℕ) (networks : List Network) → h ≡ p.header → payload ≡ p.payload
    → IsCrossed h.control payload networks → Ok networks ≡ crossed_of h.control payload → IsListed p networks
listed p h payload networks same_header same_payload is read = grind (arith, networks_listed)

-- then only the port's own network is asked for
pub asked_among : (port : Port) (p : Parts) (networks : List Network) → IsListed p networks
    → first_of (propagated_checks port p) ≡ first_of (when (is_among port.network networks) CrossedSeen ∷ [])
asked_among port p networks is = grind arith
