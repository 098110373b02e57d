-- The stations that hear what a port sends are those of the ports that receive it.
use Rattle.std.proofs.Common.{◌≡◌, refl, ap₂, ◌∙◌, ℕ, ◌≤◌, ◌==◌, ◌&&◌, Bool, false, List, [], ◌∷◌, length, map, filter, inl, inr, arith}
use Rattle.std.proofs.lemmas.Bool.{cases_Bool}
use Rattle.std.proofs.lemmas.List.{length-map}
use Rattle.ipx_wire.specs.declared.network.Network.{Network}
use Rattle.ipx_wire.specs.declared.node.Node.{Node}
use Rattle.ipx_internet.specs.Delivery.{receives, delivered}
use Rattle.ipx_internet.specs.Internet.{Internet, Place, network_of}
use Rattle.ipx_internet.specs.inside.Stations.{stations_on, station_at, place_of, hears, IsIndex, AreOf}
use Rattle.ipx_internet.specs.declared.stations.Station.{Station}

module _ {X Y : Type 0} (f : X → Y) (g : Y → X) (p r : X → Bool) (h : Y → Bool) (back : (x : X) → g (f x) ≡ x) (both : (x : X) → r x ≡ (p x && h (f x))) where
  -- what passes a test, and whose image passes another
  passes_both : (xs : List X) → map g (filter h (map f (filter p xs))) ≡ filter r xs
  passes_both [] = refl
  passes_both (x ∷ xs) =
      let rest = passes_both xs in
      elim (cases_Bool (p x)) [
        | inl e ↦
            let same : r x ≡ h (f x) = rw e at (both x) in
            elim (cases_Bool (h (f x))) [
              | inl on ↦ rw (e, on, same ∙ on) (ap₂ (λ y ys. y ∷ ys) (back x) rest)
              | inr off ↦ rw (e, off, same ∙ off) rest
            ]
        | inr e ↦
            let none : r x ≡ false = rw e at (both x) in
            rw (e, none) rest
      ]

no_more_pass : {X : Type 0} (p : X → Bool) (xs : List X) → length (filter p xs) ≤ length xs
no_more_pass p [] = omega arith
no_more_pass p (x ∷ xs) = grind (arith, no_more_pass p xs)

module _ (net : Internet) (list : List Station) (of : AreOf net list) (from : Place) (link : Node) (network : Network)
    (is : network.0 ≡ (network_of net from).0) where
  -- a port receives what its station, being on the network, hears
  received : (place : Place) → receives net from link place ≡ (((network_of net place).0 == network.0) && hears from.router link (station_at net place))
  received place = grind arith

  -- by router and port
  pub heard : map place_of (filter (hears from.router link) (stations_on list network)) ≡ delivered net from link
  heard = grind (arith, passes_both, received)

  -- as many as may be on one network
  pub heard_few : (most : ℕ) → ((network : Network) → length (stations_on list network) ≤ most) → length (delivered net from link) ≤ most
  heard_few most few = grind (arith, no_more_pass, length-map, heard)

-- the same at the port's network itself
pub heard_at : (net : Internet) (list : List Station) → AreOf net list → (from : Place) (link : Node)
    → map place_of (filter (hears from.router link) (stations_on list (network_of net from))) ≡ delivered net from link
heard_at net list of from link = heard net list of from link (network_of net from) refl

pub few_heard : (net : Internet) (list : List Station) → AreOf net list → (from : Place) (link : Node) (most : ℕ) → IsIndex list most
    → length (delivered net from link) ≤ most
few_heard net list of from link most index = heard_few net list of from link (network_of net from) refl most index.few
