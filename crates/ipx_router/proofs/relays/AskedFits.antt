-- A packet that is only asked to be sent on: why it isn't, and that what leaves of it fits.
use Rattle.std.proofs.Common.{◌≡◌, refl, sym, ap, ◌∙◌, ℕ, ◌+◌, ◌*◌, ◌<◌, ◌≤◌, ◌==◌, not, Bool, true, false, List, [], ◌∷◌, length, None, Some, inl, inr, arith, length-append, true≢false}
use Rattle.std.specs.List.{AllByRecursion, flat_map, list_any}
use Rattle.std.proofs.lemmas.Bool.{cases_Bool, eqb-true, eq-eqb}
use Rattle.std.proofs.Math.Nat.{mul-le-mul_right}
use Rattle.ipx_wire.specs.Forward.{forwarded, propagated}
use Rattle.ipx_wire.specs.Packet.{Parts}
use Rattle.ipx_wire.specs.Write.{packet_bytes}
use Rattle.ipx_wire.specs.declared.network.Network.{Network}
use Rattle.ipx_wire.specs.declared.node.Node.{Node}
use Rattle.ipx_router.specs.Checks.{relay_checks}
use Rattle.ipx_router.specs.inside.CheckGroups.{IsListed}
use Rattle.ipx_router.specs.Outbox.{Contents, HasRoom, Fits, Appends}
use Rattle.ipx_router.specs.Port.{Port, port_at, is_up}
use Rattle.ipx_router.specs.Relay.{relay_why, relay_outcome, relay_sends, passed_outcome, relay_places}
use Rattle.ipx_router.specs.Relays.{goes_out, propagated_on, relayed}
use Rattle.ipx_router.specs.Why.{when, first_of, is_down_port}
use Rattle.ipx_router.specs.declared.outcome.Outcome.{Outcome}
use Rattle.ipx_router.specs.declared.outcome.Outcome.TheVariants.{Dropped}
use Rattle.ipx_router.specs.declared.route_offer.RouteOffer.{RouteOffer}
use Rattle.ipx_router.specs.declared.why.Why.{Why}
use Rattle.ipx_router.specs.declared.why.Why.TheVariants.{DownPort}
use Rattle.ipx_router.proofs.lists.EachElement.{all-flat_map}
use Rattle.ipx_router.proofs.verdicts.ChecksOfEachKind.{first_front, first_behind}
use Rattle.ipx_router.proofs.sending.OneAfterAnother.{appends_none, fits_room, total_most}
use Rattle.ipx_router.proofs.port_values.PortOfEachNumber.{members}

module _ (ports : List Port) (up : List ℕ) (routes : List RouteOffer) (number : ℕ) (p : Parts) where
  -- ---- why

  pub relay_refused : (reason : Why) → first_of (relay_checks ports up routes (port_at ports number) p) ≡ Some reason → relay_why ports up routes true number p ≡ Some reason
  relay_refused reason e = first_front (relay_checks ports up routes (port_at ports number) p) (when (is_down_port up number) DownPort ∷ []) reason e

  pub relay_up : is_up up number ≡ true → first_of (relay_checks ports up routes (port_at ports number) p) ≡ None → relay_why ports up routes true number p ≡ None
  relay_up there e =
      first_behind (relay_checks ports up routes (port_at ports number) p) (when (is_down_port up number) DownPort ∷ []) e
      ∙ ap (λ b. first_of (when (not b) DownPort ∷ [])) there

  pub relay_down : is_up up number ≡ false → first_of (relay_checks ports up routes (port_at ports number) p) ≡ None → relay_why ports up routes true number p ≡ Some DownPort
  relay_down away e =
      first_behind (relay_checks ports up routes (port_at ports number) p) (when (is_down_port up number) DownPort ∷ []) e
      ∙ ap (λ b. first_of (when (not b) DownPort ∷ [])) away

  -- ---- what becomes of it

  module _ (running : Bool) where
    pub drops : (reason : Why) → relay_why ports up routes running number p ≡ Some reason → Dropped reason ≡ relay_outcome ports up routes running number p
    drops reason e = rw (e, relay_outcome) refl

    pub sends_none : (o : Contents) (reason : Why) → relay_why ports up routes running number p ≡ Some reason → Appends o o (relay_sends ports up routes running number p)
    sends_none o reason e = rw (e, relay_sends) (appends_none o)

    pub lets_pass : (o : Outcome) → relay_why ports up routes running number p ≡ None → o ≡ passed_outcome (port_at ports number) p.header
        → o ≡ relay_outcome ports up routes running number p
    lets_pass o e is = rw (e, relay_outcome) is

    pub sends_on : (a b : Contents) → relay_why ports up routes running number p ≡ None → Appends a b (relayed ports up routes number p)
        → Appends a b (relay_sends ports up routes running number p)
    sends_on a b e is = rw (e, relay_sends) is

-- ---- it fits

-- at most one packet for each of a list, and none for one of them
few_others : {X : Type 0} (f : ℕ → List X) (xs : List ℕ) (number : ℕ) → ((x : ℕ) → length (f x) ≤ 1) → f number ≡ [] → list_any (λ x. x == number) xs ≡ true
    → length (flat_map f xs) + 1 ≤ length xs
few_others f [] number each none there = absurd (true≢false (sym there))
few_others f (x ∷ xs) number each none there = elim (cases_Bool (x == number)) [
  | inl same ↦
      let nothing : length (f x) ≡ 0 = rw (eqb-true x number same, none) refl in
      omega (arith, nothing, length-append (f x) (flat_map f xs), few_each xs)
  | inr other ↦ omega (arith, each x, length-append (f x) (flat_map f xs), few_others f xs number each none (rw other at there))
]
  where
    few_each : (ys : List ℕ) → length (flat_map f ys) ≤ length ys
    few_each [] = omega arith
    few_each (y ∷ ys) = omega (arith, each y, length-append (f y) (flat_map f ys), few_each ys)

module _ (ports : List Port) (number : ℕ) (p : Parts) where
  one_each : (out : ℕ) → length (propagated_on ports number p out) ≤ 1
  one_each out = elim (cases_Bool (goes_out ports number p out)) [ inl goes ↦ rw goes (omega arith) | inr stays ↦ rw stays (omega arith) ]

  -- none on the port on which it came
  none_back : propagated_on ports number p number ≡ []
  none_back = let same : (number == number) ≡ true = eq-eqb number number refl in rw same refl

  pub few_propagated : (up : List ℕ) → is_up up number ≡ true → length up ≤ length ports → length (flat_map (propagated_on ports number p) up) ≤ relay_places ports
  few_propagated up there few = grind (arith, few_others, one_each, none_back)

  -- each as long as it came
  module _ (long : (arrived outgoing : Network) → p.header.control < 8 → 32 ≤ length p.payload
      → length (packet_bytes (propagated arrived outgoing p)) ≡ p.header.length) (networks : List Network) (listed : IsListed p networks) where
    short_each : (out : ℕ) → AllByRecursion (λ s. length s.bytes ≤ p.header.length) (propagated_on ports number p out)
    short_each out = grind arith

    pub short_propagated : (up : List ℕ) → AllByRecursion (λ s. length s.bytes ≤ p.header.length) (flat_map (propagated_on ports number p) up)
    short_propagated up =
        all-flat_map (λ out. is_up up out ≡ true) (λ s. length s.bytes ≤ p.header.length) (propagated_on ports number p) (λ out there. short_each out) up (members up)

    pub propagated_fit : (up : List ℕ) (o : Contents) → is_up up number ≡ true → length up ≤ length ports
        → HasRoom o (relay_places ports) (relay_places ports * p.header.length) → Fits o (flat_map (propagated_on ports number p) up)
    propagated_fit up o there few room =
        let sent = flat_map (propagated_on ports number p) up in
        let within = few_propagated up there few in
        let short = total_most p.header.length sent (short_propagated up) in
        fits_room (relay_places ports) (relay_places ports * p.header.length) sent room within
        (omega (arith, short, mul-le-mul_right p.header.length within))

  -- one packet fits
  pub forwarded_fits : (out : ℕ) (link : Node) (o : Contents) → length (packet_bytes (forwarded p)) ≡ p.header.length
      → HasRoom o (relay_places ports) (relay_places ports * p.header.length)
      → Fits o (record { port = out; link = link; bytes = packet_bytes (forwarded p) } ∷ [])
  forwarded_fits out link o long room = grind arith
