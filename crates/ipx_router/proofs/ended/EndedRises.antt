-- What ended rises as it is told, and where each of it stands among what else is told.
use Rattle.std.proofs.Common.{arith}
use Rattle.std.proofs.Common.{rules}
use Rattle.std.proofs.lemmas.Grind.{common_steps}
use Rattle.std.proofs.Common.{◌≡◌, refl, ℕ, ◌==◌, Bool, true, false, if◌then◌else◌, List, [], ◌∷◌, ◌++◌, length, Option, None, Some, inl, inr, true≢false, Ordering, is_lt}
use Rattle.std.specs.List.{AllByRecursion, flat_map}
use Rattle.std.proofs.lemmas.Bool.{cases_Bool}
use Rattle.std.proofs.Math.Dec.{eqb-suc-zero}
use Rattle.ipx_table.specs.Stands.{Ascends}
use Rattle.ipx_wire.specs.declared.rip.RipEntry.{RipEntry}
use Rattle.ipx_wire.specs.declared.service.Service.{Service}
use Rattle.ipx_router.specs.inside.Ended.{AreInOrder, by_route, by_service, dead_offer, dead_route, ended_as, ended_on, ends_before, service_ended_on}
use Rattle.ipx_router.specs.Port.{Port}
use Rattle.ipx_router.specs.Sorted.{put_all, sorted}
use Rattle.ipx_router.specs.inside.Sources.{first_then}
use Rattle.ipx_router.specs.Told.{network_before, name_before, by_network, by_name, told, told_services}
use Rattle.ipx_router.specs.declared.route_offer.RouteOffer.{RouteOffer}
use Rattle.ipx_router.specs.declared.service_offer.ServiceOffer.{ServiceOffer}
use Rattle.ipx_router.proofs.tables.ToldRises.{network_orders, name_orders}
use Rattle.ipx_router.proofs.lists.EachElement.{all_then}
use Rattle.ipx_router.proofs.lists.PutInOrder.{IsOrder, IsFirst, Rises, put_behind, other_first, sorted-rising, sorted-more, rises-sorted}

-- ---- offers that are read one by one, but for some, where reading keeps their order

module _ {O X : Type 0} (by_key : O → O → Ordering) (comes_before : X → X → Bool) (orders : IsOrder comes_before)
    (read : O → X) (kept : (a b : O) → is_lt (by_key a b) ≡ true → comes_before (read b) (read a) ≡ false) (skipped : O → Bool) where
  abbrev read_of : O → List X
  read_of o = if skipped o then [] else read o ∷ []

  first_among : (x : X) (offers : List O) → AllByRecursion (λ o. comes_before (read o) x ≡ false) offers
      → IsFirst comes_before x (flat_map read_of offers)
  first_among x [] all = tt
  first_among x (o ∷ offers) all = grind (arith, first_among x offers all.1)

  behind_first : (o : O) (offers : List O) → AllByRecursion (λ x. is_lt (by_key o x) ≡ true) offers
      → AllByRecursion (λ x. comes_before (read x) (read o) ≡ false) offers
  behind_first o offers above = all_then (λ x. is_lt (by_key o x) ≡ true) (λ x. comes_before (read x) (read o) ≡ false) (kept o) offers above

  pub rises-read : (offers : List O) → Ascends by_key offers → Rises comes_before (flat_map read_of offers)
  rises-read [] up = tt
  rises-read (o ∷ offers) up = elim (cases_Bool (skipped o)) [
    | inl e ↦ rw e (rises-read offers up.1)
    | inr e ↦ rw e (first_among (read o) offers (behind_first o offers up.0), rises-read offers up.1)
  ]

  -- an offer that comes before the first item goes in front of it
  pub goes_first : (x : X) (xs : List X) (o : O) (offers : List O) → Ascends by_key (o ∷ offers) → comes_before (read o) x ≡ true
      → put_all comes_before (x ∷ xs) (flat_map read_of (o ∷ offers)) ≡ read_of o ++ put_all comes_before (x ∷ xs) (flat_map read_of offers)
  goes_first x xs o offers up less = elim (cases_Bool (skipped o)) [
    | inl e ↦ rw e refl
    | inr e ↦ rw e (other_first comes_before x (read o) xs (flat_map read_of offers)
        (first_among (read o) offers (behind_first o offers up.0), rises-read offers up.1) less)
  ]

  -- where the first offer doesn't, none does
  pub goes_behind : (x : X) (xs : List X) (o : O) (offers : List O) → Ascends by_key (o ∷ offers) → comes_before (read o) x ≡ false
      → put_all comes_before (x ∷ xs) (flat_map read_of (o ∷ offers)) ≡ x ∷ put_all comes_before xs (flat_map read_of (o ∷ offers))
  goes_behind x xs o offers up more =
      put_behind comes_before x xs (flat_map read_of (o ∷ offers)) (first_among x (o ∷ offers) (
        more,
        all_then (λ y. comes_before (read y) (read o) ≡ false) (λ y. comes_before (read y) x ≡ false) (λ y l. orders.through (read y) (read o) x l more)
            offers (behind_first o offers up.0),
      ))

-- ---- what ended, of either kind

module _ {O X : Type 0} (by_key : O → O → Ordering) (comes_before : X → X → Bool) (read : O → X) (order : AreInOrder by_key comes_before read)
    (port : O → ℕ) (number : ℕ) where
  orders : IsOrder comes_before
  orders = record { one_way = order.one_way; through = order.through }

  abbrev ended_of : List O → List X
  ended_of offers = flat_map (ended_as port read number) offers

  -- in its order it is as it stands
  pub sorted-ended : (offers : List O) → Ascends by_key offers → sorted comes_before (ended_of offers) ≡ ended_of offers
  sorted-ended offers up = sorted-rising comes_before (ended_of offers) (rises-read by_key comes_before orders read order.kept (λ o. port o == number) offers up)

  -- one that comes before what waits is next
  pub ended_next : (waiting : Option X) (later : List X) (offer : O) (rest : List O) → Ascends by_key (offer ∷ rest)
      → ends_before comes_before read waiting offer ≡ true
      → put_all comes_before (first_then waiting later) (ended_of (offer ∷ rest))
      ≡ ended_as port read number offer ++ put_all comes_before (first_then waiting later) (ended_of rest)
  ended_next None later offer rest up before = search (rules, sorted-ended)
  ended_next (Some waiting) later offer rest up before =
      goes_first by_key comes_before orders read order.kept (λ o. port o == number) waiting later offer rest up before

  -- where the first one doesn't, what waits is next
  pub waiting_then : (waiting : Option X) (later : List X) (offer : O) (rest : List O) → Ascends by_key (offer ∷ rest)
      → ends_before comes_before read waiting offer ≡ false
      → put_all comes_before (first_then waiting later) (ended_of (offer ∷ rest))
      ≡ first_then waiting (put_all comes_before later (ended_of (offer ∷ rest)))
  waiting_then None later offer rest up behind = absurd (true≢false behind)
  waiting_then (Some waiting) later offer rest up behind =
      goes_behind by_key comes_before orders read order.kept (λ o. port o == number) waiting later offer rest up behind

-- ---- routes

pub routes_in_order : AreInOrder by_route network_before dead_route
routes_in_order = grind arith

-- what is told, in its order with what ended
pub told_with : (ports : List Port) (up : List ℕ) (routes : List RouteOffer) (number : ℕ) (ended : List RipEntry)
    → by_network (told ports up routes number ++ ended) ≡ put_all network_before (told ports up routes number) ended
told_with ports up routes number ended = grind (arith, sorted-more, rises-sorted, network_orders)

-- and alone, where nothing ended
pub told_with_none : (ports : List Port) (up : List ℕ) (routes : List RouteOffer) (number : ℕ) (ended : List RouteOffer) → true ≡ (length ended == 0)
    → by_network (told ports up routes number ++ flat_map (ended_on number) ended) ≡ told ports up routes number
told_with_none ports up routes number ended none = grind (arith, common_steps, told_with, eqb-suc-zero)

-- ---- services

pub services_in_order : AreInOrder by_service name_before dead_offer
services_in_order = record {
  one_way = name_orders.one_way;
  through = name_orders.through;
  kept = λ a b less. name_orders.one_way (dead_offer a) (dead_offer b) less;
}

pub services_with : (services : List ServiceOffer) (number : ℕ) (ended_services : List Service)
    → by_name (told_services services number ++ ended_services) ≡ put_all name_before (told_services services number) ended_services
services_with services number ended_services = grind (arith, sorted-more, rises-sorted, name_orders)

pub services_with_none : (services : List ServiceOffer) (number : ℕ) (ended_services : List ServiceOffer) → true ≡ (length ended_services == 0)
    → by_name (told_services services number ++ flat_map (service_ended_on number) ended_services) ≡ told_services services number
services_with_none services number ended_services none = grind (arith, common_steps, services_with, eqb-suc-zero)
