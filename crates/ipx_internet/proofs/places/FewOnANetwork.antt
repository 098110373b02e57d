-- How many ports a network has, how many receive a packet there, and how many a router has: no more than the greatest numbers say.
use Rattle.std.proofs.Common.{refl, sym, ap, subst, ℕ, zero, suc, ◌-◌, ◌<◌, ◌≤◌, ◌==◌, false, List, [], ◌∷◌, length, map, flat_map, inl, inr, arith}
use Rattle.std.proofs.lemmas.Bool.{both_ways, eq-eqb, false_from_ne_true}
use Rattle.ipx_wire.specs.declared.node.Node.{Node}
use Rattle.ipx_router.specs.Port.{numbers}
use Rattle.ipx_internet.specs.Delivery.{receives, delivered}
use Rattle.ipx_internet.specs.Internet.{Internet, Place, ports_of, network_of, IsPlace, places}
use Rattle.ipx_internet.specs.Most.{most_ports, on_network, most_on_network}
use Rattle.ipx_internet.proofs.lists.HowManyPass.{IsIn, in_front, behind, in_image, fewer_by_one, number_in, at_most_greatest}
use Rattle.ipx_internet.proofs.places.OneReceiverOfANode.{receives_is}

-- a port that there is is among the places
pub place_in : (net : Internet) (place : Place) → IsPlace net place → IsIn place (places net)
place_in net place within =
    in_pieces (numbers (length net)) (number_in place.router (length net) (router_there net place.router place.port within))
  where
    router_there : (net : Internet) (router port : ℕ) → port < length (ports_of net router) → router < length net
    router_there [] router port within = absurd (omega (arith, within))
    router_there (ports ∷ net) zero port within = omega arith
    router_there (ports ∷ net) (suc router) port within = let deeper = router_there net router port within in omega (arith, deeper)

    at : ℕ → ℕ → Place
    at router port = record { router = router; port = port }

    of_router : ℕ → List Place
    of_router router = map (at router) (numbers (length (ports_of net router)))

    in_pieces : (routers : List ℕ) → IsIn place.router routers → IsIn place (flat_map of_router routers)
    in_pieces [] there = absurd there
    in_pieces (r ∷ routers) there = elim there [
      | inl e ↦
          in_front place (of_router r) (flat_map of_router routers)
          (subst (λ (k : ℕ). IsIn place (of_router k)) (sym e)
          (in_image (at place.router) place.port (numbers (length (ports_of net place.router))) (number_in place.port (length (ports_of net place.router)) within)))
      | inr later ↦ behind place (of_router r) (flat_map of_router routers) (in_pieces routers later)
    ]

-- a network has no more ports than the greatest number
pub network_small : (net : Internet) (place : Place) → IsPlace net place → length (on_network net (network_of net place)) ≤ most_on_network net
network_small net place within = grind (arith, at_most_greatest, in_image, place_in)

-- a packet reaches no more ports than the others of the network
pub delivered_few : (net : Internet) (from : Place) (link : Node) → IsPlace net from → length (delivered net from link) ≤ most_on_network net - 1
delivered_few net from link within =
    let small = network_small net from within in
    let fewer =
    fewer_by_one (receives net from link) (λ place. (network_of net place).0 == (network_of net from).0)
    (λ to e. let received = receives_is net from link to e in eq-eqb (network_of net to).0 (network_of net from).0 (ap (λ n. n.0) received.network))
    from (places net) (place_in net from within) (false_from_ne_true (receives net from link from) (λ e. (receives_is net from link from e).other refl))
    (eq-eqb (network_of net from).0 (network_of net from).0 refl) in
    omega (arith, small, fewer)

-- there is a port on a port's network
pub some_on_network : (net : Internet) (place : Place) → IsPlace net place → 1 ≤ most_on_network net
some_on_network net place within =
    let small = network_small net place within in
    let fewer = fewer_by_one (λ place. false) (λ other. (network_of net other).0 == (network_of net place).0) (λ to e. absurd (both_ways false refl e))
    place (places net) (place_in net place within) refl (eq-eqb (network_of net place).0 (network_of net place).0 refl) in
    omega (arith, small, fewer)

-- a router has no more ports than the greatest number
pub router_small : (net : Internet) (router : ℕ) → length (ports_of net router) ≤ most_ports net
router_small [] router = omega arith
router_small (ports ∷ net) zero = omega arith
router_small (ports ∷ net) (suc router) = let rest = router_small net router in omega (arith, rest)
