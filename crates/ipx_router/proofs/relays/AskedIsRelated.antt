-- What leaves of a packet that is only asked to be sent on is what the relations say of its bytes.
use Rattle.std.proofs.Common.{◌≡◌, refl, sym, ◌∙◌, ℕ, true, List, [], ◌∷◌, ◌++◌, map, Option, None, Some, Ok, inl, inr, arith}
use Rattle.std.specs.List.{slice_get}
use Rattle.std.specs.List.Sorted.{IsStrictlyIncreasing}
use Rattle.std.proofs.lemmas.Bool.{cases_Bool}
use Rattle.ipx_wire.specs.Packet.{Parts, packet_of}
use Rattle.ipx_router.specs.Checks.{relay_checks}
use Rattle.ipx_router.specs.inside.Judged.{packet_why}
use Rattle.ipx_router.specs.Packets.{IsRelayed}
use Rattle.ipx_router.specs.Port.{Port, port_at, is_local}
use Rattle.ipx_router.specs.Relay.{relay_why, relay_sends}
use Rattle.ipx_router.specs.Relays.{Sent, relayed}
use Rattle.ipx_router.specs.Why.{why, when, first_of, checks, is_propagated, is_down_port}
use Rattle.ipx_router.specs.declared.route_offer.RouteOffer.{RouteOffer}
use Rattle.ipx_router.specs.declared.why.Why.{Why}
use Rattle.ipx_router.specs.declared.why.Why.TheVariants.{DownPort}
use Rattle.ipx_router.proofs.verdicts.ChecksOfEachKind.{first_behind, is_far-parts, when_propagated, when_far, all_propagated, all_far}
use Rattle.ipx_router.proofs.tables.HeldWasOffered.{nothing}
use Rattle.ipx_router.proofs.verdicts.FoundIsDefined.{refused_too, why_read}

-- where no check of a list holds, none of its parts does
parts_none : (a b : List (Option Why)) → first_of (a ++ b) ≡ None → (first_of a ≡ None) × (first_of b ≡ None)
parts_none [] b e = (refl, e)
parts_none (Some w ∷ a) b e = nothing (sym e)
parts_none (None ∷ a) b e = parts_none a b e

module _ (ports : List Port) (up : List ℕ) (routes : List RouteOffer) (number : ℕ) (p : Parts) where
  -- what no check drops is sent on too
  relay_checks_none : first_of (checks ports up routes (port_at ports number) p) ≡ None → first_of (relay_checks ports up routes (port_at ports number) p) ≡ None
  relay_checks_none e = by (first_of (relay_checks ports up routes (port_at ports number) p)) refl
    where
      by : (o : Option Why) → first_of (relay_checks ports up routes (port_at ports number) p) ≡ o → first_of (relay_checks ports up routes (port_at ports number) p) ≡ None
      by None is = is
      by (Some reason) is = nothing (sym e ∙ refused_too ports up routes (port_at ports number) p reason is)

  passes_alone : packet_why ports up routes number p ≡ None → relay_why ports up routes true number p ≡ None
  passes_alone e =
      let parts = parts_none (checks ports up routes (port_at ports number) p) (when (is_down_port up number) DownPort ∷ []) e in
      first_behind (relay_checks ports up routes (port_at ports number) p) (when (is_down_port up number) DownPort ∷ []) (relay_checks_none parts.0) ∙ parts.1

  -- what is sent on no check drops, if it isn't near
  passes_all : relay_why ports up routes true number p ≡ None
      → first_of (checks ports up routes (port_at ports number) p) ≡ first_of (relay_checks ports up routes (port_at ports number) p)
      → packet_why ports up routes number p ≡ None
  passes_all e same =
      let parts = parts_none (relay_checks ports up routes (port_at ports number) p) (when (is_down_port up number) DownPort ∷ []) e in
      first_behind (checks ports up routes (port_at ports number) p) (when (is_down_port up number) DownPort ∷ []) (same ∙ parts.0) ∙ parts.1

module _ (ports : List Port) (up : List ℕ) (routes : List RouteOffer) (number : ℕ) (bytes : List ℕ) where
  -- the two laws on what is listed
  abbrev pub Listing : Type 0
  Listing = (p : Parts) (k : ℕ) (s : Sent) → why ports up routes true number bytes ≡ None → packet_of bytes ≡ Ok p
      → slice_get (relayed ports up routes number p) k ≡ Some s → IsRelayed ports up routes number bytes s

  module _ (p : Parts) (read : packet_of bytes ≡ Ok p) (k : ℕ) (s : Sent) (listed : Listing) where
    -- what leaves of a packet that isn't near is listed
    far_listed : relay_why ports up routes true number p ≡ None
        → first_of (checks ports up routes (port_at ports number) p) ≡ first_of (relay_checks ports up routes (port_at ports number) p)
        → slice_get (relayed ports up routes number p) k ≡ Some s → IsRelayed ports up routes number bytes s
    far_listed e same there =
        listed p k s (why_read ports up routes number bytes p read routes ∙ passes_all ports up routes number p e same) read there

    kind_listed : relay_why ports up routes true number p ≡ None → slice_get (relayed ports up routes number p) k ≡ Some s → IsRelayed ports up routes number bytes s
    kind_listed e there = elim (cases_Bool (is_propagated p.header)) [
      | inl all ↦
          far_listed e
          (all_propagated ports up routes (port_at ports number) p all ∙ sym (when_propagated ports up routes (port_at ports number) p all)) there
      | inr one ↦ elim (cases_Bool (is_local (port_at ports number) p.header.destination.network)) [
        | inl here ↦ nothing (rw (one, here) at there)
        | inr beyond ↦
            let far = is_far-parts (port_at ports number) p.header one beyond in
            far_listed e
            (all_far ports up routes (port_at ports number) p far ∙ sym (when_far ports up routes (port_at ports number) p far)) there
      ]
    ]

    pub relay_listed : slice_get (relay_sends ports up routes true number p) k ≡ Some s → IsRelayed ports up routes number bytes s
    relay_listed there = by (relay_why ports up routes true number p) refl there
      where
        by : (o : Option Why) → relay_why ports up routes true number p ≡ o
            → slice_get (elim o [ Some reason ↦ [] | None ↦ relayed ports up routes number p ]) k ≡ Some s → IsRelayed ports up routes number bytes s
        by (Some reason) e there = nothing there
        by None e there = kind_listed e there

  -- what no check drops leaves also where it is only asked to be sent on
  pub relay_all : (p : Parts) → packet_of bytes ≡ Ok p → why ports up routes true number bytes ≡ None
      → relay_sends ports up routes true number p ≡ relayed ports up routes number p
  relay_all p read e = grind (arith, passes_alone, why_read)

-- ports in order
pub relay_in_order : (ports : List Port) (up : List ℕ) (routes : List RouteOffer) (number : ℕ) (p : Parts)
    → IsStrictlyIncreasing (map (λ s. s.port) (relayed ports up routes number p))
    → IsStrictlyIncreasing (map (λ s. s.port) (relay_sends ports up routes true number p))
relay_in_order ports up routes number p rises = by (relay_why ports up routes true number p)
  where
    by : (o : Option Why) → IsStrictlyIncreasing (map (λ (s : Sent). s.port) (elim o [ Some reason ↦ [] | None ↦ relayed ports up routes number p ]))
    by (Some reason) = λ k below. absurd (omega (arith, below))
    by None = rises
