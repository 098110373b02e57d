-- A router of which every route is real advertises fewer networks than the internet has.
use Rattle.std.proofs.Common.{◌≡◌, ◌≢◌, refl, ap, ℕ, ◌<◌, true, false, List, [], ◌∷◌, ◌++◌, length, map, arith, length-append}
use Rattle.std.specs.List.{AllByRecursion}
use Rattle.std.specs.List.Sorted.{IsStrictlyIncreasing}
use Rattle.std.proofs.lemmas.Bool.{both_ways}
use Rattle.std.proofs.lemmas.List.{length-map}
use Rattle.ipx_wire.specs.Crossed.{is_among}
use Rattle.ipx_wire.specs.declared.network.Network.{Network}
use Rattle.ipx_router.specs.Port.{Port, port_at, is_up}
use Rattle.ipx_router.specs.Told.{told}
use Rattle.ipx_router.specs.declared.route_offer.RouteOffer.{RouteOffer}
use Rattle.ipx_router.proofs.bounds.ItemsOfEachList.{length-told}
use Rattle.ipx_router.proofs.horizon.NothingOnDownPorts.{apart}
use Rattle.ipx_internet.specs.Different.{AreDifferent}
use Rattle.ipx_internet.specs.Internet.{Internet, IsInternet, ports_of}
use Rattle.ipx_internet.proofs.lists.EachElement.{all_then, all-append, all_mapped, all_apart, differ-append, differ-unmap, no_more_than, rising_differ}
use Rattle.ipx_internet.proofs.places.OneReceiverOfANode.{apart_at, same_number}
use Rattle.ipx_laws.specs.Least.{is_on, networks_of}
use Rattle.ipx_laws.specs.Real.{IsReal}
use Rattle.ipx_laws.proofs.tables.LeastWays.{port_on}
use Rattle.ipx_laws.proofs.tables.RoomForEachNetwork.{named, real_named, real_wanted}

module _ (net : Internet) (is : IsInternet net) (up : ℕ → List ℕ) (in_ports : (router : ℕ) → AllByRecursion (λ j. j < length (ports_of net router)) (up router))
    (there_where_up : (router port : ℕ) → is_up (up router) port ≡ true → port < length (ports_of net router)) (router : ℕ) where
  abbrev ports : List Port
  ports = ports_of net router

  abbrev network_at : ℕ → Network
  network_at j = (port_at ports j).network

  -- ports that are up are on different networks
  networks_apart : (js : List ℕ) → AllByRecursion (λ j. j < length ports) js → AreDifferent js → AreDifferent (map network_at js)
  networks_apart [] there differ = tt
  networks_apart (j ∷ js) there differ = (each js there.1 differ.0, networks_apart js there.1 differ.1)
    where
      each : (ks : List ℕ) → AllByRecursion (λ k. k < length ports) ks → AllByRecursion (λ k. k ≢ j) ks → AllByRecursion (λ n. n ≢ network_at j) (map network_at ks)
      each [] there off = tt
      each (k ∷ ks) there_all off = (apart ports k j (apart_at net is router) there_all.0 there.0 off.0, each ks there_all.1 off.1)

  -- each is one of the internet
  ups_named : (js : List ℕ) → AllByRecursion (λ j. j < length ports) js → AllByRecursion (λ n. is_among n (networks_of net) ≡ true) (map network_at js)
  ups_named [] there = tt
  ups_named (j ∷ js) there = (named net (record { router = router; port = j }) there.0, ups_named js there.1)

  routes_named : (routes : List RouteOffer) → AllByRecursion (IsReal net up router) routes
      → AllByRecursion (λ n. is_among n (networks_of net) ≡ true) (map (λ r. r.network) routes)
  routes_named [] all = tt
  routes_named (r ∷ routes) all = (real_named net up there_where_up all.0, routes_named routes all.1)

  numbers_same : (routes : List RouteOffer) → map (λ (n : Network). n.0) (map (λ (r : RouteOffer). r.network) routes) ≡ map (λ r. r.network.0) routes
  numbers_same [] = refl
  numbers_same (r ∷ routes) = ap (λ (ns : List ℕ). r.network.0 ∷ ns) (numbers_same routes)

  routes_apart : (routes : List RouteOffer) → IsStrictlyIncreasing (map (λ r. r.network.0) routes) → AreDifferent (map (λ (r : RouteOffer). r.network) routes)
  routes_apart routes rise = grind (arith, differ-unmap, numbers_same, rising_differ)

  pub fewer : (routes : List RouteOffer) → IsStrictlyIncreasing (map (λ r. r.network.0) routes) → AllByRecursion (IsReal net up router) routes
      → AreDifferent (up router) → (number : ℕ) → is_up (up router) number ≡ true
      → length (told ports (up router) routes number) < length (networks_of net)
  fewer routes rise real differ number on =
      let ups = map network_at (up router) in
      let others = map (λ (r : RouteOffer). r.network) routes in
      let few = no_more_than (λ (n : Network). n.0) same_number (ups ++ others) (networks_of net)
      (differ-append ups others (networks_apart (up router) (in_ports router) differ) (routes_apart routes rise)
      (all_apart (λ n. is_on ports n ≡ true) (λ n. is_on ports n ≡ false) (λ n here off. both_ways (is_on ports n) off here) ups others
      (all_mapped (λ n. is_on ports n ≡ true) network_at (up router)
      (all_then (λ j. j < length ports) (λ j. is_on ports (network_at j) ≡ true) (λ j there. port_on ports (network_at j) j there refl) (up router) (in_ports router)))
      (all_mapped (λ n. is_on ports n ≡ false) (λ (r : RouteOffer). r.network) routes
      (all_then (IsReal net up router) (λ r. is_on ports r.network ≡ false) (λ r it. real_wanted net up there_where_up it) routes real))))
      (all-append (λ n. is_among n (networks_of net) ≡ true) ups others (ups_named (up router) (in_ports router)) (routes_named routes real)) in
      let both = length-append ups others in
      let first = length-map (up router) network_at in
      let second = length-map routes (λ (r : RouteOffer). r.network) in
      let most = length-told ports (up router) routes number on in
      omega (arith, few, both, first, second, most)
