-- One router more: its ports are the last places, and their stations the last on each network.
use Rattle.std.proofs.Common.{◌≡◌, refl, sym, ap, ap₂, ◌∙◌, ℕ, suc, ◌+◌, ◌<◌, ◌==◌, Bool, if◌then◌else◌, List, [], ◌∷◌, ◌++◌, length, map, filter, flat_map, inl, inr, arith, append-nil, append_assoc, length-append, rules}
use Rattle.std.specs.List.{AllByRecursion}
use Rattle.std.proofs.lemmas.Bool.{cases_Bool}
use Rattle.std.proofs.lemmas.Grind.{flat_map-append, common_steps}
use Rattle.std.proofs.lemmas.List.{get_or_append_left, get_or-append-add, map-append}
use Rattle.std.proofs.lemmas.List.Elements.{filter-append}
use Rattle.ipx_wire.specs.declared.network.Network.{Network}
use Rattle.ipx_router.specs.Port.{Port, port_at, numbers}
use Rattle.ipx_internet.specs.Internet.{Internet, Place, ports_of, network_of, places}
use Rattle.ipx_internet.specs.Most.{on_network}
use Rattle.ipx_internet.specs.inside.Stations.{stations_on, station, station_at, AreOf}
use Rattle.ipx_internet.specs.declared.stations.Station.{Station}
use Rattle.ipx_internet.proofs.lists.EachElement.{all_then, all_of, all-map, all-flat_map, numbers_below}

-- ---- lists

module _ {X : Type 0} where
  flat_map_same : {Y : Type 0} (f g : X → List Y) (xs : List X) → AllByRecursion (λ x. f x ≡ g x) xs → flat_map f xs ≡ flat_map g xs
  flat_map_same f g [] all = refl
  flat_map_same f g (x ∷ xs) all = ap₂ (λ a b. a ++ b) all.0 (flat_map_same f g xs all.1)

  -- the images of what passes, where images and tests are the same
  image_same : {Y : Type 0} (p q : X → Bool) (f g : X → Y) (xs : List X) → AllByRecursion (λ x. (p x ≡ q x) × (f x ≡ g x)) xs
      → map f (filter p xs) ≡ map g (filter q xs)
  image_same p q f g [] all = refl
  image_same p q f g (x ∷ xs) all = grind (arith, image_same p q f g xs all.1)

  -- the same by a test of the images
  image_filter : {Y Z : Type 0} (f : X → Y) (g : Y → Z) (h : X → Z) (p : Y → Bool) (q : Z → Bool) → ((x : X) → g (f x) ≡ h x) → ((x : X) → p (f x) ≡ q (h x))
      → (xs : List X) → map g (filter p (map f xs)) ≡ filter q (map h xs)
  image_filter f g h p q images tests [] = refl
  image_filter f g h p q images tests (x ∷ xs) = grind (arith, image_filter f g h p q images tests xs)

-- ---- stations of one router

-- the stations of a router's first ports
abbrev pub stations_of : ℕ → List Port → ℕ → List Station
stations_of number ports k = map (λ j. station number j (port_at ports j)) (numbers k)

-- behind the stations of some networks stand those of a router's first ports
abbrev pub HasFirst : ℕ → List Port → ℕ → List Station → List Station → Type 0
HasFirst number ports k old new = (network : Network) → stations_on new network ≡ stations_on old network ++ stations_on (stations_of number ports k) network

pub none_yet : (number : ℕ) (ports : List Port) (list : List Station) → HasFirst number ports 0 list list
none_yet number ports list network = sym (append-nil (stations_on list network))

-- one port more
pub one_more : (number : ℕ) (ports : List Port) (k : ℕ) (old new next : List Station) (s : Station) → HasFirst number ports k old new
    → s ≡ station number k (port_at ports k)
    → ((network : Network) → stations_on next network ≡ (if s.network.0 == network.0 then stations_on new network ++ s ∷ [] else stations_on new network))
    → HasFirst number ports (k + 1) old next
one_more number ports k old new next s has is put network =
    let on : Station → Bool = λ x. x.network.0 == network.0 in
    let front = stations_of number ports k in
    let next_is : k + 1 ≡ suc k = omega arith in
    let split : stations_on (stations_of number ports (k + 1)) network ≡ stations_on front network ++ stations_on (s ∷ []) network =
    ap (λ m. stations_on (stations_of number ports m) network) next_is
    ∙ ap (λ ss. stations_on ss network) (map-append (λ j. station number j (port_at ports j)) (numbers k) (k ∷ []))
    ∙ filter-append on front (station number k (port_at ports k) ∷ []) ∙ ap (λ x. stations_on front network ++ stations_on (x ∷ []) network) (sym is) in
    elim (cases_Bool (on s)) [
      | inl e ↦
          let single : stations_on (s ∷ []) network ≡ s ∷ [] = rw e refl in
          let here : stations_on next network ≡ stations_on new network ++ s ∷ [] = rw e at (put network) in
          here ∙ ap (λ ss. ss ++ s ∷ []) (has network) ∙ append_assoc (stations_on old network) (stations_on front network) (s ∷ [])
          ∙ ap (λ ss. stations_on old network ++ ss) (ap (λ x. stations_on front network ++ x) (sym single) ∙ sym split)
      | inr e ↦
          let single : stations_on (s ∷ []) network ≡ [] = rw e refl in
          let here : stations_on next network ≡ stations_on new network = rw e at (put network) in
          here ∙ has network
          ∙ ap (λ ss. stations_on old network ++ ss)
          (sym (append-nil (stations_on front network)) ∙ ap (λ x. stations_on front network ++ x) (sym single) ∙ sym split)
    ]

-- ---- an internet with one router more

module _ (net : Internet) (ports : List Port) where
  abbrev wider : Internet
  wider = net ++ ports ∷ []

  abbrev at : ℕ → ℕ → Place
  at router port = record { router = router; port = port }

  abbrev of_router : Internet → ℕ → List Place
  of_router other router = map (at router) (numbers (length (ports_of other router)))

  old_ports : (router : ℕ) → router < length net → ports_of wider router ≡ ports_of net router
  old_ports router less = get_or_append_left net (ports ∷ []) [] router less

  new_ports : ports_of wider (length net) ≡ ports
  new_ports = grind (arith, common_steps, get_or-append-add)

  -- its places are those before, and those of the last router
  places_wider : places wider ≡ places net ++ map (at (length net)) (numbers (length ports))
  places_wider = search (rules, length-append, flat_map_same, all_then, old_ports, numbers_below, append-nil, new_ports, flat_map-append)

  -- the places before are of routers before
  places_before : AllByRecursion (λ place. place.router < length net) (places net)
  places_before =
      all-flat_map (λ router. router < length net) (λ place. place.router < length net) (of_router net)
      (λ router below. all-map (λ port. Unit) (λ place. place.router < length net) (at router) (λ port yes. below) (numbers (length (ports_of net router)))
      (all_of (λ port. Unit) (λ port. tt) (numbers (length (ports_of net router)))))
      (numbers (length net)) (numbers_below (length net))

  module _ (network : Network) where
    abbrev on : Internet → Place → Bool
    on other place = (network_of other place).0 == network.0

    before : map (station_at wider) (filter (on wider) (places net)) ≡ map (station_at net) (on_network net network)
    before = grind (arith, image_same, all_then, old_ports, places_before)

    behind : map (station_at wider) (filter (on wider) (map (at (length net)) (numbers (length ports))))
        ≡ stations_on (stations_of (length net) ports (length ports)) network
    behind = grind (arith, image_filter, new_ports)

    stations_wider : map (station_at wider) (on_network wider network)
        ≡ map (station_at net) (on_network net network) ++ stations_on (stations_of (length net) ports (length ports)) network
    stations_wider = grind (arith, places_wider, filter-append, map-append, before, behind)

-- the stations of a router's ports behind those of an internet are those of the internet with that router
pub are_wider : (net : Internet) (ports : List Port) (number : ℕ) (old new : List Station) → AreOf net old → length net ≡ number
    → HasFirst number ports (length ports) old new → AreOf (net ++ ports ∷ []) new
are_wider net ports number old new of is has = grind (arith, stations_wider)
