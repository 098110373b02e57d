-- A route that differs from the one before is said: its network is among the changes on each port but that by which it came.
use Rattle.std.proofs.Common.{◌≡◌, ◌≢◌, refl, sym, ap, ◌∙◌, subst, ℕ, ◌==◌, true, false, not, List, [], ◌∷◌, map, find, Option, Some, None, inl, inr, is_eq, arith}
use Rattle.std.specs.List.{list_any}
use Rattle.std.proofs.lemmas.Bool.{cases_Bool}
use Rattle.ipx_wire.specs.declared.network.Network.{Network}
use Rattle.ipx_wire.specs.declared.rip.RipEntry.{RipEntry}
use Rattle.ipx_router.specs.Changes.{Change, same_or_none, put_key, put_keys, change_at, differs, changes}
use Rattle.ipx_router.specs.News.{route_now, route_told, news, same_route}
use Rattle.ipx_router.specs.Port.{Port, port_at}
use Rattle.ipx_router.specs.Routes.{network_order}
use Rattle.std.specs.Ordering.{is_lt}
use Rattle.ipx_router.specs.Told.{is_reached_on}
use Rattle.ipx_router.specs.declared.route_offer.RouteOffer.{RouteOffer}
use Rattle.ipx_internet.proofs.lists.EachElement.{all_of}
use Rattle.ipx_internet.proofs.lists.FoundInAList.{nothing, it_is}
use Rattle.ipx_internet.proofs.places.OneReceiverOfANode.{same_number}
use Rattle.ipx_laws.specs.Least.{way_of}
use Rattle.ipx_laws.proofs.lists.SomeElement.{AnyIs, any_then, any_passes, any-put, any-map, any-filter, any-flat_map, found_with}
use Rattle.ipx_laws.proofs.tables.RoomForEachNetwork.{same_where_equal}

-- keys of which one is the network
module _ (network : Network) where
  abbrev IsIt : Network → Type 0
  IsIt k = k ≡ network

  abbrev put_one : Network → List Network → List Network
  put_one = put_key (λ (r : RouteOffer). r.network) network_order same_route

  abbrev put_some : List RouteOffer → List Network → List Network
  put_some = put_keys (λ (r : RouteOffer). r.network) network_order same_route

  one_stays : (key : Network) (keys : List Network) → AnyIs IsIt keys → AnyIs IsIt (put_one key keys)
  one_stays key keys any = grind (arith, is_eq, any-put)

  one_comes : (key : Network) (keys : List Network) → key ≡ network → AnyIs IsIt (put_one key keys)
  one_comes key keys same = elim (cases_Bool (list_any (λ other. is_eq (network_order key other)) keys)) [
    | inl e ↦
        rw e (any_then (λ other. is_eq (network_order key other) ≡ true) IsIt
        (λ other equal. sym (same_number key other (same_where_equal key.0 other.0 equal)) ∙ same) keys
        (any_passes (λ other. is_eq (network_order key other)) keys e))
    | inr e ↦ rw e (any-put IsIt (λ a b. is_lt (network_order a b)) key keys (inl same))
  ]

  some_stay : (routes : List RouteOffer) (keys : List Network) → AnyIs IsIt keys → AnyIs IsIt (put_some routes keys)
  some_stay [] keys any = any
  some_stay (r ∷ routes) keys any = one_stays r.network (put_some routes keys) (some_stay routes keys any)

  some_come : (routes : List RouteOffer) (keys : List Network) → AnyIs (λ r. r.network ≡ network) routes → AnyIs IsIt (put_some routes keys)
  some_come [] keys any = absurd any
  some_come (r ∷ routes) keys (inl here) = one_comes r.network (put_some routes keys) here
  some_come (r ∷ routes) keys (inr behind) = one_stays r.network (put_some routes keys) (some_come routes keys behind)

  found_any : (routes : List RouteOffer) (r : RouteOffer) → find (λ o. is_eq (network_order o.network network)) routes ≡ Some r → AnyIs (λ o. o.network ≡ network) routes
  found_any [] r e = nothing e
  found_any (o ∷ routes) r e = elim (cases_Bool (is_eq (network_order o.network network))) [
    | inl here ↦ inl (same_number o.network network (same_where_equal o.network.0 network.0 here))
    | inr other ↦ inr (found_any routes r (rw other at e))
  ]

module _ (ports : List Port) (network : Network) (j : ℕ) (before after : List RouteOffer) (r : RouteOffer)
    (now : find (λ o. is_eq (network_order o.network network)) after ≡ Some r) (elsewhere : (r.port == j) ≡ false)
    (other : (s : RouteOffer) → find (λ o. is_eq (network_order o.network network)) before ≡ Some s → way_of s ≢ way_of r) where
  abbrev IsOf : RipEntry → Type 0
  IsOf e = e.network ≡ network

  named : r.network ≡ network
  named =
      let found = found_with (λ o. Unit {0}) (λ o. is_eq (network_order o.network network)) after r (all_of (λ o. Unit {0}) (λ o. tt) after) now in
      same_number r.network network (same_where_equal r.network.0 network.0 found.1)

  abbrev at : Network → Change RouteOffer
  at = change_at (λ r. r.network) network_order same_route before after

  abbrev keys : List Network
  keys = put_keys (λ r. r.network) network_order same_route before (put_keys (λ r. r.network) network_order same_route after [])

  apart : (s : RouteOffer) → way_of s ≢ way_of r → same_route s r ≡ false
  apart s differ = grind arith

  it_differs : differs (λ (x : RouteOffer). x.network) network_order same_route (at network) ≡ true
  it_differs = by (find (λ o. is_eq (network_order o.network network)) before) (find (λ o. is_eq (network_order o.network network)) after) refl now
    where
      by : (a b : Option RouteOffer) → find (λ o. is_eq (network_order o.network network)) before ≡ a → b ≡ Some r
          → not (same_or_none (λ (x : RouteOffer). x.network) network_order same_route a b) ≡ true
      by None None e is = nothing is
      by (Some s) None e is = refl
      by None (Some q) e is = refl
      by (Some s) (Some q) e is = it_is (λ (x : RouteOffer). not (same_route s x) ≡ true) q r (sym is) (ap not (apart s (other s e)))

  told_of : (a b : Option RouteOffer) → b ≡ Some r → AnyIs IsOf (route_told ports j (record { before = a; after = b }))
  told_of a None e = nothing e
  told_of a (Some q) e =
      it_is (λ (x : RouteOffer). AnyIs IsOf (route_told ports j (record { before = a; after = Some x }))) q r (sym e) (rw elsewhere (inl of_now))
    where
      of_now : (route_now (port_at ports j) r).network ≡ network
      of_now = elim (cases_Bool (is_reached_on r.hops)) [ inl f ↦ rw f named | inr f ↦ rw f named ]

  pub change_said : AnyIs IsOf (news ports before after j)
  change_said =
      any-flat_map (λ c. c ≡ at network) IsOf (route_told ports j)
      (λ c same. subst (λ (d : Change RouteOffer). AnyIs IsOf (route_told ports j d)) (sym same)
      (told_of (find (λ o. is_eq (network_order o.network network)) before) (find (λ o. is_eq (network_order o.network network)) after) now))
      (changes (λ r. r.network) network_order same_route before after)
      (any-filter (λ c. c ≡ at network) (differs (λ r. r.network) network_order same_route)
      (λ c same. subst (λ (d : Change RouteOffer). differs (λ (x : RouteOffer). x.network) network_order same_route d ≡ true) (sym same) it_differs) (map at keys)
      (any-map (λ k. k ≡ network) (λ c. c ≡ at network) at (λ k same. ap at same) keys
      (some_stay network before (put_keys (λ r. r.network) network_order same_route after []) (some_come network after [] (found_any network after r now)))))
