-- The most stations that are on one network are the most ports that are.
use Rattle.std.proofs.Common.{◌≡◌, refl, ap, ◌∙◌, ℕ, ◌≤◌, ◌==◌, ◌⊎◌, List, [], ◌∷◌, length, map, filter, inl, arith}
use Rattle.std.proofs.lemmas.List.{length-map}
use Rattle.ipx_wire.specs.declared.network.Network.{Network}
use Rattle.ipx_internet.specs.Internet.{Internet, Place, network_of, places}
use Rattle.ipx_internet.specs.Most.{greatest, on_network, most_on_network}
use Rattle.ipx_internet.specs.inside.Stations.{stations_on, station_at, IsIndex, AreOf}
use Rattle.ipx_internet.specs.declared.stations.Station.{Station}
use Rattle.ipx_internet.proofs.lists.HowManyPass.{IsIn, in_image, at_most_greatest}
use Rattle.ipx_internet.proofs.places.OneReceiverOfANode.{same_number}

module _ (net : Internet) (list : List Station) (are : AreOf net list) (most : ℕ) (index : IsIndex list most) where
  as_many : (network : Network) → length (stations_on list network) ≡ length (on_network net network)
  as_many network = ap length (are.each network) ∙ length-map (on_network net network) (station_at net)

  -- how many are on the network of a port
  abbrev beside : Place → ℕ
  beside place = length (on_network net (network_of net place))

  no_more : (ps : List Place) → greatest (map beside ps) ≤ most
  no_more [] = omega arith
  no_more (place ∷ ps) = grind (arith, no_more ps, as_many)

  -- of some ports none is on a network, or one is
  none_or_one : (network : Network) (ps : List Place) → (filter (λ p. (network_of net p).0 == network.0) ps ≡ [])
      ⊎ ((place : Place) × IsIn place ps × ((network_of net place).0 ≡ network.0))
  none_or_one network [] = inl refl
  none_or_one network (p ∷ ps) = grind (arith, none_or_one network ps)

  no_fewer : most ≤ most_on_network net
  no_fewer = grind (arith, as_many, none_or_one, at_most_greatest, in_image, same_number)

  pub most_stations : most ≡ most_on_network net
  most_stations = let few = no_more (places net) in let enough = no_fewer in omega (arith, few, enough)
