-- Where the records ascend by their keys, what changed with a second, or with a port that goes down, is what ended.
use Rattle.std.proofs.Common.{arith}
use Rattle.std.proofs.Common.{rules}
use Rattle.std.proofs.Common.{◌≡◌, refl, sym, ap, subst, if◌then◌else◌, ◌∙◌, ℕ, ◌==◌, Bool, true, false, not, List, [], ◌∷◌, ◌++◌, map, filter, None, inl, inr, Ordering, Equal, is_eq, is_lt}
use Rattle.std.specs.List.{AllByRecursion, list_any, flat_map}
use Rattle.std.specs.Ordering.{ordering_reverse}
use Rattle.std.specs.Cmp.{IsTotalOrder}
use Rattle.std.proofs.lemmas.Bool.{cases_Bool}
use Rattle.ipx_table.specs.Stands.{IsAscending, older, second_later, ended, without_port, ended_with_port}
use Rattle.ipx_table.specs.declared.held.Held.{Held}
use Rattle.ipx_router.specs.Changes.{offer_of, put_key, put_keys, change_at, differs, changes}
use Rattle.ipx_router.specs.inside.Ended.{gone, ended_on, service_ended_on}
use Rattle.ipx_router.specs.Facts.{offers}
use Rattle.ipx_router.specs.News.{route_told, service_told, news, news_services}
use Rattle.ipx_router.specs.Port.{Port}
use Rattle.ipx_router.specs.Routes.{network_order}
use Rattle.ipx_router.specs.Services.{service_order}
use Rattle.ipx_router.specs.declared.route_offer.RouteOffer.{RouteOffer}
use Rattle.ipx_router.specs.declared.service_offer.ServiceOffer.{ServiceOffer}
use Rattle.ipx_router.proofs.bounds.PacketsOfEachEvent.{network_total, service_total}
use Rattle.ipx_router.proofs.lists.EachElement.{all_placed, all-map}
use Rattle.ipx_router.proofs.changes.KeysThatDiffer.{is_less}
use Rattle.ipx_router.proofs.telling.LawsOfTold.{route-same, service-same}

-- ---- the three answers

self_turned : (r : Ordering) → r ≡ ordering_reverse r → r ≡ Equal
self_turned r e = grind arith

-- ---- keys that are known rise as the offers do

module _ {O K : Type 0} (key_of : O → K) (order : K → K → Ordering) (same : O → O → Bool)
    (total : IsTotalOrder order) (itself : (o : O) → same o o ≡ true) where
  -- the key is smaller than each of the keys
  abbrev IsBelow : K → List K → Type 0
  IsBelow key keys = AllByRecursion (λ other. is_lt (order key other) ≡ true) keys

  -- each offer has a smaller key than those behind it
  abbrev Rises : List O → Type 0
  Rises [] = Unit
  Rises (o ∷ rest) = IsBelow (key_of o) (map key_of rest) × Rises rest

  apart : (a b : K) → is_lt (order a b) ≡ true → is_eq (order a b) ≡ false
  apart a b l = ap is_eq (is_less (order a b) l)

  as_itself : (a : K) → is_eq (order a a) ≡ true
  as_itself a = ap is_eq (self_turned (order a a) (total.antisymm a a))

  unknown : (key : K) (keys : List K) → IsBelow key keys → list_any (λ other. is_eq (order key other)) keys ≡ false
  unknown key [] below = refl
  unknown key (other ∷ keys) below = let e = apart key other below.0 in rw e (unknown key keys below.1)

  -- a smaller key goes in front
  in_front : (key : K) (keys : List K) → IsBelow key keys → put_key key_of order same key keys ≡ key ∷ keys
  in_front key [] below = refl
  in_front key (other ∷ keys) below = grind (arith, apart, unknown)

  -- it is known there
  again : (key : K) (keys : List K) → put_key key_of order same key (key ∷ keys) ≡ key ∷ keys
  again key keys = let e = as_itself key in rw e refl

  -- a greater key goes behind it
  behind : (key first : K) (keys : List K) → is_lt (order first key) ≡ true
      → put_key key_of order same key (first ∷ keys) ≡ first ∷ put_key key_of order same key keys
  behind key first keys l = grind arith

  all_behind : (first : K) (xs : List O) (keys : List K) → IsBelow first (map key_of xs)
      → put_keys key_of order same xs (first ∷ keys) ≡ first ∷ put_keys key_of order same xs keys
  all_behind first [] keys below = refl
  all_behind first (x ∷ xs) keys below = grind (arith, all_behind first xs keys below.1)

  below_one : (first key : K) (keys : List K) → is_lt (order first key) ≡ true → IsBelow first keys → IsBelow first (put_key key_of order same key keys)
  below_one first key keys l below = grind (arith, is_eq, all_placed, is_lt)

  below_all : (first : K) (xs : List O) (keys : List K) → IsBelow first (map key_of xs) → IsBelow first keys → IsBelow first (put_keys key_of order same xs keys)
  below_all first [] keys below more = more
  below_all first (x ∷ xs) keys below more = grind (arith, below_all first xs keys below.1 more, below_one)

  -- ---- what differs

  found_behind : (o : O) (xs : List O) (key : K) → is_lt (order (key_of o) key) ≡ true
      → offer_of key_of order same key (o ∷ xs) ≡ offer_of key_of order same key xs
  found_behind o xs key l = let e = apart (key_of o) key l in rw e refl

  none_found : (key : K) (xs : List O) → IsBelow key (map key_of xs) → offer_of key_of order same key xs ≡ None
  none_found key [] below = refl
  none_found key (x ∷ xs) below = grind (arith, none_found key xs below.1)

  -- behind the first offer no key finds it
  found_without : (o : O) (xs ys zs : List O) (keys : List K) → ((key : K) → is_lt (order (key_of o) key) ≡ true → offer_of key_of order same key zs ≡ offer_of key_of order same key ys)
      → IsBelow (key_of o) keys
      → map (change_at key_of order same (o ∷ xs) zs) keys ≡ map (change_at key_of order same xs ys) keys
  found_without o xs ys zs [] alike below = refl
  found_without o xs ys zs (key ∷ keys) alike below = grind (arith, found_without o xs ys zs keys alike below.1)

  -- the first offer ends
  first_gone : (o : O) (xs ys : List O) (keys : List K) → offer_of key_of order same (key_of o) ys ≡ None → IsBelow (key_of o) keys
      → filter (differs key_of order same) (map (change_at key_of order same (o ∷ xs) ys) (key_of o ∷ keys))
      ≡ gone o ∷ filter (differs key_of order same) (map (change_at key_of order same xs ys) keys)
  first_gone o xs ys keys none below = grind (arith, as_itself, found_without)

  -- the first offer stays
  first_stays : (o : O) (xs ys : List O) (keys : List K) → IsBelow (key_of o) keys
      → filter (differs key_of order same) (map (change_at key_of order same (o ∷ xs) (o ∷ ys)) (key_of o ∷ keys))
      ≡ filter (differs key_of order same) (map (change_at key_of order same xs ys) keys)
  first_stays o xs ys keys below = grind (arith, as_itself, found_without, found_behind)

  -- ---- some records end, and the others stay

  module _ (goes : Held O → Bool) where
    abbrev stays : Held O → Bool
    stays h = not (goes h)

    rising : (records : List (Held O)) → IsAscending (λ a b. order (key_of a) (key_of b)) records → Rises (offers records)
    rising [] up = tt
    rising (h ∷ records) up = (
      all-map (λ o. is_lt (order (key_of h.offer) (key_of o)) ≡ true) (λ key. is_lt (order (key_of h.offer) key) ≡ true) key_of (λ o l. l) (offers records)
          (all-map (λ x. is_lt (order (key_of h.offer) (key_of x.offer)) ≡ true) (λ o. is_lt (order (key_of h.offer) (key_of o)) ≡ true) (λ x. x.offer) (λ x l. l) records up.0),
      rising records up.1,
    )

    below_stay : (first : K) (records : List (Held O)) → IsBelow first (map key_of (offers records)) → IsBelow first (map key_of (offers (filter stays records)))
    below_stay first [] below = tt
    below_stay first (h ∷ records) below = grind (arith, below_stay first records below.1)

    -- the keys of all are those that there were
    same_keys : (records : List (Held O)) → Rises (offers records)
        → put_keys key_of order same (offers records) (put_keys key_of order same (offers (filter stays records)) []) ≡ map key_of (offers records)
    same_keys [] up = refl
    same_keys (h ∷ records) up =
        let key = key_of h.offer in
        let some = put_keys key_of order same (offers (filter stays records)) [] in
        let low : IsBelow key some = below_all key (offers (filter stays records)) [] (below_stay key records up.0) tt in
        let rest : put_keys key_of order same (offers records) some ≡ map key_of (offers records) = same_keys records up.1 in
        elim (cases_Bool (goes h)) [
          | inl e ↦ rw e (ap (put_key key_of order same key) rest ∙ in_front key (map key_of (offers records)) up.0)
          | inr e ↦ rw e (
              ap (λ keys. put_key key_of order same key (put_keys key_of order same (offers records) keys)) (in_front key some low)
              ∙ ap (put_key key_of order same key) (all_behind key (offers records) some up.0)
              ∙ again key (put_keys key_of order same (offers records) some)
              ∙ ap (λ keys. key ∷ keys) rest
              )
        ]

    -- of those offers, where those stay, those are gone
    abbrev AreGone : List O → List (Held O) → List (Held O) → Type 0
    AreGone xs staying going =
        filter (differs key_of order same) (map (change_at key_of order same xs (offers staying)) (map key_of xs)) ≡ map gone (offers going)

    staying : (h : Held O) (records : List (Held O)) (b : Bool) → goes h ≡ b
        → filter stays (h ∷ records) ≡ (if b then filter stays records else h ∷ filter stays records)
    staying h records b e = grind arith

    going : (h : Held O) (records : List (Held O)) (b : Bool) → goes h ≡ b
        → filter goes (h ∷ records) ≡ (if b then h ∷ filter goes records else filter goes records)
    going h records b e = grind arith

    those_gone : (records : List (Held O)) → Rises (offers records) → AreGone (offers records) (filter stays records) (filter goes records)
    those_gone [] up = refl
    those_gone (h ∷ records) up =
        let xs = offers records in
        let ys = offers (filter stays records) in
        let all = offers (h ∷ records) in
        elim (cases_Bool (goes h)) [
          | inl e ↦
              subst (λ rest. AreGone all rest (filter goes (h ∷ records))) (sym (staying h records true e))
              (subst (AreGone all (filter stays records)) (sym (going h records true e))
              (first_gone h.offer xs ys (map key_of xs) (none_found (key_of h.offer) ys (below_stay (key_of h.offer) records up.0)) up.0
              ∙ ap (λ cs. gone h.offer ∷ cs) (those_gone records up.1)))
          | inr e ↦
              subst (λ rest. AreGone all rest (filter goes (h ∷ records))) (sym (staying h records false e))
              (subst (AreGone all (h ∷ filter stays records)) (sym (going h records false e))
              (first_stays h.offer xs ys (map key_of xs) up.0 ∙ those_gone records up.1))
        ]

    -- what changed is what ended
    changes-gone : (records : List (Held O)) → IsAscending (λ a b. order (key_of a) (key_of b)) records
        → changes key_of order same (offers records) (offers (filter stays records)) ≡ map gone (offers (filter goes records))
    changes-gone records up = grind (arith, same_keys, rising, those_gone)

  offers-older : (records : List (Held O)) → offers (map older records) ≡ offers records
  offers-older [] = refl
  offers-older (h ∷ records) = ap (λ rest. h.offer ∷ rest) (offers-older records)

  -- with a second
  pub changes-second : (records : List (Held O)) → IsAscending (λ a b. order (key_of a) (key_of b)) records
      → changes key_of order same (offers records) (offers (second_later records)) ≡ map gone (ended records)
  changes-second records up = search (rules, offers-older, changes-gone)

  -- with a port that goes down
  pub changes-port : (port_by : O → ℕ) (port : ℕ) (records : List (Held O)) → IsAscending (λ a b. order (key_of a) (key_of b)) records
      → changes key_of order same (offers records) (offers (without_port port_by port records)) ≡ map gone (ended_with_port port_by port records)
  changes-port port_by port records up = changes-gone (λ h. port_by h.offer == port) records up

-- ---- as it is told

routes_told : (ports : List Port) (number : ℕ) (routes : List RouteOffer) → flat_map (route_told ports number) (map gone routes) ≡ flat_map (ended_on number) routes
routes_told ports number [] = refl
routes_told ports number (route ∷ routes) = ap (λ rest. ended_on number route ++ rest) (routes_told ports number routes)

services_told : (number : ℕ) (services : List ServiceOffer) → flat_map (service_told number) (map gone services) ≡ flat_map (service_ended_on number) services
services_told number [] = refl
services_told number (offer ∷ services) = ap (λ rest. service_ended_on number offer ++ rest) (services_told number services)

-- routes by their networks, and services by their types and names
abbrev pub RouteRecordsAscend : List (Held RouteOffer) → Type 0
RouteRecordsAscend records = IsAscending (λ a b. network_order a.network b.network) records

abbrev pub ServiceRecordsAscend : List (Held ServiceOffer) → Type 0
ServiceRecordsAscend records =
    IsAscending (λ a b. service_order (a.service.kind, a.service.name) (b.service.kind, b.service.name)) records

pub news-second : (ports : List Port) (number : ℕ) (records : List (Held RouteOffer)) → RouteRecordsAscend records
    → news ports (offers records) (offers (second_later records)) number ≡ flat_map (ended_on number) (ended records)
news-second ports number records up = grind (arith, changes-second, network_total, route-same, routes_told)

pub news-port : (ports : List Port) (number port : ℕ) (records : List (Held RouteOffer)) → RouteRecordsAscend records
    → news ports (offers records) (offers (without_port (λ r. r.port) port records)) number ≡ flat_map (ended_on number) (ended_with_port (λ r. r.port) port records)
news-port ports number port records up = grind (arith, changes-port, network_total, route-same, routes_told)

pub services-second : (number : ℕ) (records : List (Held ServiceOffer)) → ServiceRecordsAscend records
    → news_services (offers records) (offers (second_later records)) number ≡ flat_map (service_ended_on number) (ended records)
services-second number records up = grind (arith, changes-second, service_total, service-same, services_told)

pub services-port : (number port : ℕ) (records : List (Held ServiceOffer)) → ServiceRecordsAscend records
    → news_services (offers records) (offers (without_port (λ s. s.port) port records)) number
    ≡ flat_map (service_ended_on number) (ended_with_port (λ s. s.port) port records)
services-port number port records up = grind (arith, changes-port, service_total, service-same, services_told)
