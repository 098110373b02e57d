-- How many items the lists of what is told and sent have.
use Rattle.std.proofs.Common.{◌≡◌, refl, sym, ap, ◌∙◌, ℕ, zero, suc, ◌+◌, ◌<◌, ◌*◌, ◌≤◌, ◌==◌, not, true, false, true≢false, if◌then◌else◌, Bool, List, [], ◌∷◌, ◌++◌, map, filter, length, arith, length-append, inl, inr}
use Rattle.std.specs.List.{AllByRecursion, flat_map}
use Rattle.std.proofs.lemmas.Bool.{cases_Bool, cases_lt}
use Rattle.std.proofs.lemmas.List.{length-map}
use Rattle.std.proofs.lemmas.List.Elements.{filter-append}
use Rattle.ipx_wire.specs.declared.rip.RipEntry.{RipEntry}
use Rattle.ipx_wire.specs.declared.service.Service.{Service}
use Rattle.ipx_router.specs.Port.{Port, port_at, numbers, is_up}
use Rattle.ipx_router.specs.Sends.{is_nearer, nearest_of}
use Rattle.ipx_router.specs.Sorted.{put, put_all, sorted}
use Rattle.ipx_router.specs.Told.{network_before, name_before, by_network, by_name, told_at, direct_entry, direct, entry_of, is_route_told, told, told_services}
use Rattle.ipx_router.specs.declared.route_offer.RouteOffer.{RouteOffer}
use Rattle.ipx_router.specs.declared.service_offer.ServiceOffer.{ServiceOffer}
use Rattle.ipx_router.proofs.lists.EachElement.{all_then}
use Rattle.ipx_router.proofs.port_values.PortOfEachNumber.{members}

-- ---- lists

pub length-filter : {X : Type 0} (p : X → Bool) (xs : List X) → length (filter p xs) ≤ length xs
length-filter p [] = omega arith
length-filter p (x ∷ xs) = grind (arith, length-filter p xs)

-- at most one item for each
pub length-singles : {X Y : Type 0} (f : X → List Y) (xs : List X) → ((x : X) → length (f x) ≤ 1) → length (flat_map f xs) ≤ length xs
length-singles f [] few = omega arith
length-singles f (x ∷ xs) few = omega (arith, length-append (f x) (flat_map f xs), few x, length-singles f xs few)

-- at most this number of items for each
length-flat : {X Y : Type 0} (f : X → List Y) (most : ℕ) (xs : List X) → AllByRecursion (λ x. length (f x) ≤ most) xs → length (flat_map f xs) ≤ length xs * most
length-flat f most [] all = omega arith
length-flat f most (x ∷ xs) all = omega (arith, length-append (f x) (flat_map f xs), all.0, length-flat f most xs all.1)

-- at most this number of items for each port that is up
pub length-each : {X : Type 0} (f : ℕ → List X) (most : ℕ) (up : List ℕ) → ((number : ℕ) → is_up up number ≡ true → length (f number) ≤ most)
    → length (flat_map f up) ≤ length up * most
length-each f most up few = length-flat f most up (all_then (λ j. is_up up j ≡ true) (λ j. length (f j) ≤ most) few up (members up))

-- ---- numbers

pub length-numbers : (n : ℕ) → length (numbers n) ≡ n
length-numbers zero = refl
length-numbers (suc n) = omega (arith, length-append (numbers n) (n ∷ []), length-numbers n)

-- a number that doesn't pass is left out
pub length-left_out : (p : ℕ → Bool) (n number : ℕ) → number < n → p number ≡ false → length (filter p (numbers n)) + 1 ≤ n
length-left_out p zero number below fails = absurd (omega (arith, below))
length-left_out p (suc n) number below fails =
    let parts = length-append (filter p (numbers n)) (filter p (n ∷ [])) in
    rw (filter-append p (numbers n) (n ∷ []))
    (elim (cases_lt number n) [
      | inl before ↦ omega (arith, parts, length-left_out p n number before fails, length-filter p (n ∷ []))
      | inr here ↦
          let same : n ≡ number = omega (arith, here, below) in
          let none : length (filter p (n ∷ [])) ≡ 0 = rw (ap p same ∙ fails) refl in
          omega (arith, parts, none, length-filter p (numbers n), length-numbers n)
    ])

-- ---- in order

module _ {X : Type 0} (comes_before : X → X → Bool) where
  length-put : (x : X) (xs : List X) → length (put comes_before x xs) ≡ length xs + 1
  length-put x [] = refl
  length-put x (y ∷ xs) = grind (arith, length-put x xs)

  length-put_all : (placed xs : List X) → length (put_all comes_before placed xs) ≡ length placed + length xs
  length-put_all placed [] = omega arith
  length-put_all placed (x ∷ xs) = omega (arith, length-put_all (put comes_before x placed) xs, length-put x placed)

  length-sorted : (xs : List X) → length (sorted comes_before xs) ≡ length xs
  length-sorted xs = length-put_all [] xs ∙ (omega arith)

pub length-by_network : (entries : List RipEntry) → length (by_network entries) ≡ length entries
length-by_network entries = length-sorted network_before entries

pub length-by_name : (services : List Service) → length (by_name services) ≡ length services
length-by_name services = length-sorted name_before services

-- ---- what is told

-- of the ports that are up one is left out
length-others : (up : List ℕ) (number : ℕ) → is_up up number ≡ true → length (filter (λ other. not (other == number)) up) + 1 ≤ length up
length-others [] number is = absurd (true≢false (sym is))
length-others (x ∷ up) number is = elim (cases_Bool (x == number)) [
  | inl same ↦ rw same (omega (arith, length-filter (λ other. not (other == number)) up))
  | inr other ↦ rw other (omega (arith, length-others up number (rw other at is)))
]

-- no more than all routes and the networks of the other ports
pub length-told : (ports : List Port) (up : List ℕ) (routes : List RouteOffer) (number : ℕ) → is_up up number ≡ true
    → length (told ports up routes number) + 1 ≤ length routes + length up
length-told ports up routes number is =
    let cost = (port_at ports number).cost in
    let others = filter (λ other. not (other == number)) up in
    let learned = filter (is_route_told number) routes in
    let items = direct ports up number ++ map entry_of learned in
    omega (
      arith,
      length-by_network (map (told_at cost) items),
      length-map items (told_at cost),
      length-append (direct ports up number) (map entry_of learned),
      length-map others (direct_entry ports),
      length-others up number is,
      length-map learned entry_of,
      length-filter (is_route_told number) routes,
    )

-- no more than all services
pub length-told_services : (services : List ServiceOffer) (number : ℕ) → length (told_services services number) ≤ length services
length-told_services services number = grind (arith, length-by_name, length-map, length-filter)

-- the nearest of services is one of them
pub length-nearest_of : (services : List Service) → length (nearest_of services) ≤ length services
length-nearest_of [] = omega arith
length-nearest_of (service ∷ services) = one (nearest_of services)
  where
    one : (nearest : List Service)
        → length {A = Service} (elim nearest [ [] ↦ service ∷ [] | ◌∷◌ best rest ↦ if is_nearer best service then best ∷ [] else service ∷ [] ])
        ≤ suc (length services)
    one nearest = grind arith
