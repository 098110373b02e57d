-- What is sent on of a packet leaves on rising port numbers.
use Rattle.std.proofs.Common.{◌≡◌, ℕ, zero, suc, ◌+◌, ◌<◌, arith, subst, Bool, List, [], ◌∷◌, ◌++◌, map, length, Option, None, Some, if◌then◌else◌}
use Rattle.std.specs.List.{AllByRecursion, AllPairs, flat_map, slice_index}
use Rattle.std.specs.List.Sorted.{IsStrictlyIncreasing}
use Rattle.std.proofs.lemmas.List.Kept.{AllPairs-from_increasing, IsStrictlyIncreasing-filter}
use Rattle.std.proofs.lemmas.List.Elements.{recursion_from_All}
use Rattle.ipx_wire.specs.Forward.{forwarded}
use Rattle.ipx_wire.specs.Packet.{Parts}
use Rattle.ipx_wire.specs.Write.{packet_bytes}
use Rattle.ipx_router.specs.History.{History, ports_up}
use Rattle.ipx_router.specs.Outgoing.{Way, way_to}
use Rattle.ipx_router.specs.Port.{numbers, Port}
use Rattle.ipx_router.specs.Relays.{Sent, forwarded_by, propagated_on, relayed}
use Rattle.ipx_router.specs.declared.route_offer.RouteOffer.{RouteOffer}
use Rattle.ipx_router.proofs.port_values.PortOfEachNumber.{numbers_below, ports_up-within}
use Rattle.ipx_router.proofs.tables.HeldWasOffered.{all-append}

-- each number is greater than all those before it
abbrev pub IsRising : List ℕ → Type 0
IsRising [] = Unit
IsRising (n ∷ ns) = AllByRecursion (λ m. n < m) ns × IsRising ns

-- so it is greater than the one before it
pub increasing : (xs : List ℕ) → IsRising xs → IsStrictlyIncreasing xs
increasing [] rise k below = absurd (omega (arith, below))
increasing (x ∷ []) rise k below = absurd (omega (arith, below))
increasing (x ∷ y ∷ ys) rise zero below = rise.0.0
increasing (x ∷ y ∷ ys) rise (suc k) below =
    let next : suc (k + 1) ≡ suc k + 1 = omega arith in
    subst (λ (m : ℕ). slice_index (x ∷ y ∷ ys) (suc k) < slice_index (x ∷ y ∷ ys) m) next (increasing (y ∷ ys) rise.1 k (omega (arith, below)))

-- and where each is greater than the one before it, it is greater than all
rising_pairs : (xs : List ℕ) → AllPairs (λ x y. x < y) xs → IsRising xs
rising_pairs [] pairs = tt
rising_pairs (x ∷ xs) pairs = (
  recursion_from_All (λ m. x < m) xs (λ k d below. pairs 0 (suc k) d (omega arith) (omega (arith, below))),
  rising_pairs xs (λ i j d less below. pairs (suc i) (suc j) d (omega (arith, less)) (omega (arith, below))),
)

pub rising : (xs : List ℕ) → IsStrictlyIncreasing xs → IsRising xs
rising xs ordered = rising_pairs xs (AllPairs-from_increasing xs ordered)

-- one greater number may come last
rising-push : (n : ℕ) (xs : List ℕ) → IsRising xs → AllByRecursion (λ m. m < n) xs → IsRising (xs ++ n ∷ [])
rising-push n [] rise below = (tt, tt)
rising-push n (x ∷ xs) rise below = (all-append (λ m. x < m) xs (n ∷ []) rise.0 (below.0, tt), rising-push n xs rise.1 below.1)

rising-numbers : (n : ℕ) → IsRising (numbers n)
rising-numbers zero = tt
rising-numbers (suc n) = rising-push n (numbers n) (rising-numbers n) (numbers_below n)

abbrev ports_of : List Sent → List ℕ
ports_of sent = map (λ s. s.port) sent

module _ (ports : List Port) (up : List ℕ) (routes : List RouteOffer) (number : ℕ) (p : Parts) where
  -- the ports on which a packet for all networks leaves, of those that are asked
  abbrev taken : List ℕ → List ℕ
  taken outs = ports_of (flat_map (propagated_on ports number p) outs)

  taken_above : (n : ℕ) (outs : List ℕ) → AllByRecursion (λ m. n < m) outs → AllByRecursion (λ m. n < m) (taken outs)
  taken_above n [] above = tt
  taken_above n (out ∷ outs) above = grind (arith, taken_above n outs above.1)

  taken_rising : (outs : List ℕ) → IsRising outs → IsRising (taken outs)
  taken_rising [] rise = tt
  taken_rising (out ∷ outs) rise = grind (arith, taken_rising outs rise.1, taken_above)

  -- a far packet leaves at most once
  forwarded_rising : IsRising (ports_of (forwarded_by ports up routes p))
  forwarded_rising = by (way_to ports up routes p.header.destination)
    where
      by : (o : Option Way)
          → IsRising (ports_of (elim o [ Some way ↦ record { port = way.port; link = way.link; bytes = packet_bytes (forwarded p) } ∷ [] | None ↦ [] ]))
      by (Some way) = (tt, tt)
      by None = tt

  -- of either, and of no other
  chosen : (all far : Bool) → IsRising up
      → IsRising (ports_of (if all then flat_map (propagated_on ports number p) up else if far then forwarded_by ports up routes p else []))
  chosen all far rise = grind (arith, taken_rising, forwarded_rising)

  pub in_order : IsStrictlyIncreasing up → IsStrictlyIncreasing (ports_of (relayed ports up routes number p))
  in_order ordered = grind (arith, increasing, chosen, rising)

-- ---- the ports that are up

-- they rise, and each is a port's
pub ups : (ports : List Port) (history : History) → IsStrictlyIncreasing (ports_up ports history) × AllByRecursion (λ j. j < length ports) (ports_up ports history)
ups ports history = grind (arith, IsStrictlyIncreasing-filter, increasing, rising-numbers, ports_up-within)

-- after a history each is greater than all before it
pub rising_ups : (ports : List Port) (history : History) → IsRising (ports_up ports history)
rising_ups ports history = rising (ports_up ports history) (ups ports history).0
