-- What was found of a packet is what the definitions say of the bytes that it was read from.
use Rattle.std.proofs.Common.{arith}
use Rattle.std.proofs.Common.{◌≡◌, refl, sym, ap, ◌∙◌, not, ℕ, true, false, List, [], ◌∷◌, ◌++◌, Option, None, Some, Result, Ok, Err, IfOk, inl, inr}
use Rattle.std.proofs.lemmas.Bool.{cases_Bool, and_parts, not-true}
use Rattle.ipx_wire.specs.Packet.{Parts, packet_of}
use Rattle.ipx_wire.specs.declared.packet.PacketFault.{PacketFault}
use Rattle.ipx_router.specs.Checks.{relay_checks}
use Rattle.ipx_router.specs.inside.CheckGroups.{source_checks, is_for_other, process_checks, data_why}
use Rattle.ipx_router.specs.Heard.{Heard, heard, heard_near, heard_in}
use Rattle.ipx_router.specs.inside.Judged.{IsOnward, IsVerdict, IsFound, packet_why}
use Rattle.ipx_router.specs.Port.{Port, port_at, is_up, is_local}
use Rattle.ipx_router.specs.Why.{why, when, first_of, checks, is_propagated, is_near, is_down_port}
use Rattle.ipx_router.specs.declared.judging.judge.Verdict.{Verdict}
use Rattle.ipx_router.specs.declared.route_offer.RouteOffer.{RouteOffer}
use Rattle.ipx_router.specs.declared.why.Why.{Why}
use Rattle.ipx_router.specs.declared.why.Why.TheVariants.{Elsewhere, DownPort}
use Rattle.ipx_router.proofs.verdicts.ChecksOfEachKind.{first_front, first_behind, is_far-parts, is_near-parts, when_propagated, when_near, when_far, all_propagated, all_near, all_far}
use Rattle.ipx_router.proofs.verdicts.SentOnPassesChecks.{judged}

-- ---- a packet on a port

module _ (ports : List Port) (up : List ℕ) (routes : List RouteOffer) (port : Port) (p : Parts) where
  -- what drops a packet that is to be sent on drops it
  pub refused_too : (reason : Why) → first_of (relay_checks ports up routes port p) ≡ Some reason → first_of (checks ports up routes port p) ≡ Some reason
  refused_too reason e = elim (cases_Bool (is_propagated p.header)) [
    | inl all ↦ all_propagated ports up routes port p all ∙ sym (when_propagated ports up routes port p all) ∙ e
    | inr one ↦ elim (cases_Bool (is_local port p.header.destination.network)) [
      | inl here ↦
          let near = is_near-parts port p.header one here in
          all_near ports up routes port p near
          ∙ first_front (source_checks port p.header ++ when (is_for_other port p.header) Elsewhere ∷ []) (process_checks port p.header ++ data_why p ∷ []) reason
          (sym (when_near ports up routes port p near) ∙ e)
      | inr beyond ↦
          let far = is_far-parts port p.header one beyond in
          all_far ports up routes port p far ∙ sym (when_far ports up routes port p far) ∙ e
    ]
  ]

  -- of a near packet that none of these drops the rest decide
  pub near_too : is_near port p.header ≡ true → first_of (relay_checks ports up routes port p) ≡ None
      → first_of (checks ports up routes port p) ≡ first_of (process_checks port p.header ++ data_why p ∷ [])
  near_too near e =
      all_near ports up routes port p near
      ∙ first_behind (source_checks port p.header ++ when (is_for_other port p.header) Elsewhere ∷ []) (process_checks port p.header ++ data_why p ∷ [])
      (sym (when_near ports up routes port p near) ∙ e)

-- with one check more, of the port
module _ (ports : List Port) (up : List ℕ) (routes : List RouteOffer) (number : ℕ) (p : Parts) where
  -- what drops a packet on any port drops it
  pub refused_there : (reason : Why) → first_of (checks ports up routes (port_at ports number) p) ≡ Some reason → packet_why ports up routes number p ≡ Some reason
  refused_there reason e = first_front (checks ports up routes (port_at ports number) p) (when (is_down_port up number) DownPort ∷ []) reason e

  -- a port that is up drops nothing
  pub cleared_up : is_up up number ≡ true → first_of (checks ports up routes (port_at ports number) p) ≡ None → packet_why ports up routes number p ≡ None
  cleared_up there e =
      first_behind (checks ports up routes (port_at ports number) p) (when (is_down_port up number) DownPort ∷ []) e
      ∙ ap (λ b. first_of (when (not b) DownPort ∷ [])) there

  -- one that is down drops what nothing else does
  pub refused_down : is_up up number ≡ false → first_of (checks ports up routes (port_at ports number) p) ≡ None → packet_why ports up routes number p ≡ Some DownPort
  refused_down away e =
      first_behind (checks ports up routes (port_at ports number) p) (when (is_down_port up number) DownPort ∷ []) e
      ∙ ap (λ b. first_of (when (not b) DownPort ∷ [])) away

-- ---- the bytes of a packet

-- no check of a near packet asks for routes
routeless : (ports : List Port) (up : List ℕ) (routes : List RouteOffer) (number : ℕ) (p : Parts) → is_near (port_at ports number) p.header ≡ true
    → packet_why ports up [] number p ≡ packet_why ports up routes number p
routeless ports up routes number p near =
    let port = port_at ports number in
    let parts = and_parts (not (is_propagated p.header)) (is_local port p.header.destination.network) near in
    let one = not-true (is_propagated p.header) parts.0 in
    let here = parts.1 in
    rw (one, here) refl

-- what is heard of a packet without routes
abbrev heard_by : List Port → ℕ → Parts → Option Why → Option Heard
heard_by ports number p o = elim o [ Some reason ↦ None | None ↦ heard_near (port_at ports number) p ]

silent : (ports : List Port) (number : ℕ) (p : Parts) (o : Option Why) → is_near (port_at ports number) p.header ≡ false → heard_by ports number p o ≡ None
silent ports number p o away = grind arith

module _ (ports : List Port) (up : List ℕ) (routes : List RouteOffer) (number : ℕ) (bytes : List ℕ) (p : Parts) (read : packet_of bytes ≡ Ok p) where
  pub why_read : (some : List RouteOffer) → why ports up some true number bytes ≡ packet_why ports up some number p
  why_read some = ap (judged ports up some (port_at ports number) number) read

  pub heard_read : heard ports up true number bytes ≡ heard_by ports number p (packet_why ports up [] number p)
  heard_read =
      ap (λ (r : Result Parts PacketFault). elim (judged ports up [] (port_at ports number) number r) [
        | Some reason ↦ None
        | None ↦ elim r [ Ok q ↦ heard_near (port_at ports number) q | Err fault ↦ None ]
      ]) read

  -- what a near packet says is heard
  said_heard : (m : Heard) → packet_why ports up routes number p ≡ None → is_near (port_at ports number) p.header ≡ true → heard_in p ≡ Some m
      → heard ports up true number bytes ≡ Some m
  said_heard m e near said = grind (arith, heard_read, routeless)

  -- what isn't near isn't heard
  unheard : is_near (port_at ports number) p.header ≡ false → heard ports up true number bytes ≡ None
  unheard away = heard_read ∙ silent ports number p (packet_why ports up [] number p) away

  -- a packet that goes on
  onward_of : packet_why ports up routes number p ≡ None → is_near (port_at ports number) p.header ≡ false → IsOnward ports up routes true number bytes p
  onward_of e away = record { undropped = why_read routes ∙ e; unheard = unheard away; packet = read }

  -- what was found of the packet is the verdict
  verdict_of : (v : Verdict) → packet_why ports up routes number p ≡ None → IsFound ports up routes (port_at ports number) p v
      → IsVerdict ports up routes true number bytes v
  verdict_of v e is = grind (arith, why_read, said_heard, onward_of, and_parts, not-true)

  pub verdict_found : (r : Result Verdict Why) → IfOk r (λ v. packet_why ports up routes number p ≡ None) → IfOk r (IsFound ports up routes (port_at ports number) p)
      → IfOk r (IsVerdict ports up routes true number bytes)
  verdict_found r e is = grind (arith, verdict_of)
