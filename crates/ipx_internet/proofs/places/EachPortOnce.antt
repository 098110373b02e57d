-- The ports of an internet, and those that receive a packet: each is one, and none comes twice.
use Rattle.std.proofs.Common.{◌≡◌, refl, ap, ℕ, ◌<◌, true, List, length, map}
use Rattle.std.specs.List.{AllByRecursion}
use Rattle.ipx_wire.specs.declared.node.Node.{Node}
use Rattle.ipx_router.specs.Port.{numbers}
use Rattle.ipx_internet.specs.Delivery.{receives, delivered}
use Rattle.ipx_internet.specs.Different.{AreDifferent}
use Rattle.ipx_internet.specs.Internet.{Internet, Place, ports_of, IsPlace, places}
use Rattle.ipx_internet.proofs.lists.EachElement.{all_passed, all-map, all-flat_map, differ-filter, differ-map, differ-flat_map, numbers_below, numbers_differ}

-- a port of a router
abbrev at : ℕ → ℕ → Place
at router port = record { router = router; port = port }

module _ (net : Internet) where
  -- the ports of one router
  abbrev of_router : ℕ → List Place
  of_router router = map (at router) (numbers (length (ports_of net router)))

  pub places_within : AllByRecursion (IsPlace net) (places net)
  places_within =
      all-flat_map (λ router. router < length net) (IsPlace net) of_router
      (λ router below. all-map (λ port. port < length (ports_of net router)) (IsPlace net) (at router) (λ port less. less) (numbers (length (ports_of net router)))
      (numbers_below (length (ports_of net router))))
      (numbers (length net)) (numbers_below (length net))

  pub places_differ : AreDifferent (places net)
  places_differ =
      differ-flat_map (λ router. router < length net) (λ place. place.router) of_router
      (λ router. all-map (λ port. port < length (ports_of net router)) (λ place. place.router ≡ router) (at router) (λ port less. refl)
      (numbers (length (ports_of net router))) (numbers_below (length (ports_of net router))))
      (λ router below. differ-map (at router) (λ a b same. ap (λ place. place.port) same) (numbers (length (ports_of net router)))
      (numbers_differ (length (ports_of net router))))
      (numbers (length net)) (numbers_below (length net)) (numbers_differ (length net))

  module _ (from : Place) (link : Node) where
    pub delivered_differ : AreDifferent (delivered net from link)
    delivered_differ = differ-filter (receives net from link) (places net) places_differ

    pub delivered_within : AllByRecursion (λ to. IsPlace net to × (receives net from link to ≡ true)) (delivered net from link)
    delivered_within = all_passed (IsPlace net) (receives net from link) (places net) places_within
