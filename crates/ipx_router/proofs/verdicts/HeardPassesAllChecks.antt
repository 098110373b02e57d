-- What is heard passes all checks, whatever the routes; so nothing is heard of a packet that is dropped.
use Rattle.std.proofs.Common.{◌≡◌, refl, sym, ap, ◌∙◌, ℕ, ◌&&◌, not, Bool, true, false, List, [], Option, None, Some, inl, inr}
use Rattle.std.proofs.lemmas.Bool.{cases_Bool, and_parts}
use Rattle.ipx_wire.specs.Packet.{Parts}
use Rattle.ipx_router.specs.Heard.{Heard, heard, heard_near}
use Rattle.ipx_router.specs.Port.{Port, port_at, is_local}
use Rattle.ipx_router.specs.Why.{is_propagated, is_near, is_far, first_of, why}
use Rattle.ipx_router.specs.declared.route_offer.RouteOffer.{RouteOffer}
use Rattle.ipx_router.specs.declared.why.Why.{Why}
use Rattle.ipx_router.proofs.verdicts.SentOnPassesChecks.{judged, all_checks}
use Rattle.ipx_router.proofs.tables.HeldWasOffered.{nothing, came_in}

-- a packet that is heard isn't far
not_far : (port : Port) (p : Parts) (m : Heard) → heard_near port p ≡ Some m → is_far port p.header ≡ false
not_far port p m e = elim (cases_Bool (is_near port p.header)) [
  | inl near ↦
      let local = (and_parts (not (is_propagated p.header)) (is_local port p.header.destination.network) near).1 in
      ap (λ b. not (is_propagated p.header) && not b) local ∙ never (not (is_propagated p.header))
  | inr far ↦ nothing (rw far at e)
]
  where
    never : (b : Bool) → (b && false) ≡ false
    never true = refl
    never false = refl

module _ (ports : List Port) (up : List ℕ) (routes : List RouteOffer) (number : ℕ) (bytes : List ℕ) where
  -- of a packet that isn't far no check asks for routes
  alike : (p : Parts) → is_far (port_at ports number) p.header ≡ false
      → first_of (all_checks ports up routes (port_at ports number) number p) ≡ first_of (all_checks ports up [] (port_at ports number) number p)
  alike p near = rw near refl

  pub heard_passes : (runs : Bool) (m : Heard) → heard ports up runs number bytes ≡ Some m → why ports up routes runs number bytes ≡ None
  heard_passes false m e = nothing e
  heard_passes true m e =
      let came = came_in ports up number true bytes m e in
      ap (judged ports up routes (port_at ports number) number) came.read
      ∙ alike came.packet (not_far (port_at ports number) came.packet m came.near) ∙ came.passed

  pub unheard : (runs : Bool) (reason : Why) → why ports up routes runs number bytes ≡ Some reason → heard ports up runs number bytes ≡ None
  unheard runs reason e = by (heard ports up runs number bytes) refl
    where
      by : (o : Option Heard) → heard ports up runs number bytes ≡ o → o ≡ None
      by None f = refl
      by (Some m) f = nothing (sym (heard_passes runs m f) ∙ e)
