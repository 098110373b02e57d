-- What a router says of a table that shrinks: that nothing is reached; and it says so of each route that was there, on all ports but the route's own.
use Rattle.std.proofs.Common.{◌≡◌, ◌≢◌, refl, sym, ap, ◌∙◌, subst, ◌⊎◌, ◌==◌, ℕ, Bool, true, false, List, [], ◌∷◌, map, filter, Option, None, Some, inl, inr, arith, is_eq, is_lt}
use Rattle.std.specs.List.{AllByRecursion, list_any}
use Rattle.std.proofs.lemmas.Bool.{cases_Bool, both_ways, ne_eqb}
use Rattle.ipx_wire.specs.declared.network.Network.{Network}
use Rattle.ipx_router.specs.Changes.{Change, change_at, differs, put_key, put_keys}
use Rattle.ipx_router.specs.News.{route_told, news, same_route}
use Rattle.ipx_router.specs.Port.{Port}
use Rattle.ipx_router.specs.Routes.{network_order}
use Rattle.ipx_router.specs.declared.route_offer.RouteOffer.{RouteOffer}
use Rattle.ipx_router.proofs.bounds.PacketsOfEachEvent.{network_total}
use Rattle.ipx_router.proofs.changes.KeysThatDiffer.{alike}
use Rattle.ipx_router.proofs.telling.LawsOfTold.{route-same}
use Rattle.ipx_internet.proofs.lists.EachElement.{all_of, all_passed, all-map, all-flat_map}
use Rattle.ipx_internet.proofs.lists.FoundInAList.{nothing}
use Rattle.ipx_internet.proofs.packets.AdvertisedIsHeld.{unless}
use Rattle.ipx_internet.proofs.places.OneReceiverOfANode.{same_number}
use Rattle.ipx_laws.proofs.lists.SomeElement.{AnyIs, any_then, any_passes, any-put, any-map, any-filter, any-flat_map}
use Rattle.ipx_laws.proofs.losses.TablesShrink.{route_at, Shrinks, IsDead}
use Rattle.ipx_laws.proofs.tables.RoomForEachNetwork.{same_where_equal}

abbrev key_of : RouteOffer → Network
key_of r = r.network

-- networks that compare as equal are one
same_network : (a b : Network) → is_eq (network_order a b) ≡ true → a ≡ b
same_network a b e = same_number a b (same_where_equal a.0 b.0 e)

-- ---- the networks of what changed

abbrev put_network : Network → List Network → List Network
put_network = put_key key_of network_order same_route

abbrev put_networks : List RouteOffer → List Network → List Network
put_networks = put_keys key_of network_order same_route

itself_put : (n : Network) (keys : List Network) → AnyIs (λ k. k ≡ n) (put_network n keys)
itself_put n keys = elim (cases_Bool (list_any (λ k. is_eq (network_order n k)) keys)) [
  | inl known ↦
      rw known (any_then (λ k. is_eq (network_order n k) ≡ true) (λ k. k ≡ n) (λ k e. sym (same_network n k e)) keys
      (any_passes (λ k. is_eq (network_order n k)) keys known))
  | inr new ↦ rw new (any-put (λ k. k ≡ n) (λ a b. is_lt (network_order a b)) n keys (inl refl))
]

others_stay : (n m : Network) (keys : List Network) → AnyIs (λ k. k ≡ n) keys → AnyIs (λ k. k ≡ n) (put_network m keys)
others_stay n m keys any = grind (arith, is_eq, any-put, is_lt)

all_put : (routes : List RouteOffer) (keys : List Network) (n : Network) (r : RouteOffer) → route_at n routes ≡ Some r
    → AnyIs (λ k. k ≡ n) (put_networks routes keys)
all_put [] keys n r e = nothing e
all_put (o ∷ routes) keys n r e = elim (cases_Bool (is_eq (network_order o.network n))) [
  | inl here ↦
      subst (λ (m : Network). AnyIs (λ k. k ≡ n) (put_network m (put_networks routes keys))) (sym (same_network o.network n here))
      (itself_put n (put_networks routes keys))
  | inr other ↦ others_stay n o.network (put_networks routes keys) (all_put routes keys n r (rw other at e))
]

-- ---- changes

module _ (ports : List Port) (before after : List RouteOffer) (j : ℕ) where
  abbrev keys : List Network
  keys = put_networks before (put_networks after [])

  abbrev at_key : Network → Change RouteOffer
  at_key = change_at key_of network_order same_route before after

  abbrev changed : Change RouteOffer → Bool
  changed = differs key_of network_order same_route

  abbrev Stays : Change RouteOffer → Type 0
  Stays c = (c.after ≡ c.before) ⊎ (c.after ≡ None)

  dead_told : (old new : Option RouteOffer) → (new ≡ old) ⊎ (new ≡ None) → changed (record { before = old; after = new }) ≡ true
      → AllByRecursion IsDead (route_told ports j (record { before = old; after = new }))
  dead_told old new stays e = grind (arith, unless, IsDead, nothing, alike, network_total, route-same, both_ways)

  -- all of it is dead
  pub news_dead : Shrinks before after → AllByRecursion IsDead (news ports before after j)
  news_dead shrinks =
      all-flat_map (λ c. Stays c × (changed c ≡ true)) IsDead (route_told ports j) (λ c both. dead_told c.before c.after both.0 both.1)
      (filter changed (map at_key keys))
      (all_passed Stays changed (map at_key keys)
      (all-map (λ key. Unit {0}) Stays at_key (λ key here. shrinks.each key) keys (all_of (λ key. Unit {0}) (λ key. tt) keys)))

  -- and what is no longer there is said
  pub loss_said : (r : RouteOffer) → route_at r.network before ≡ Some r → route_at r.network after ≡ None → r.port ≢ j
      → AnyIs (λ e. e.network ≡ r.network) (news ports before after j)
  loss_said r had gone apart =
      any-flat_map (λ c. (c.before ≡ Some r) × (c.after ≡ None)) (λ e. e.network ≡ r.network) (route_told ports j)
      (λ c both. told c.before c.after both.0 both.1) (filter changed (map at_key keys))
      (any-filter (λ c. (c.before ≡ Some r) × (c.after ≡ None)) changed (λ c both. passes c.before c.after both.0 both.1) (map at_key keys)
      (any-map (λ k. k ≡ r.network) (λ c. (c.before ≡ Some r) × (c.after ≡ None)) at_key
      (λ k same. (ap (λ n. route_at n before) same ∙ had, ap (λ n. route_at n after) same ∙ gone)) keys
      (all_put before (put_networks after []) r.network r had)))
    where
      passes : (old new : Option RouteOffer) → old ≡ Some r → new ≡ None → changed (record { before = old; after = new }) ≡ true
      passes old new is none = rw (is, none) refl

      told : (old new : Option RouteOffer) → old ≡ Some r → new ≡ None
          → AnyIs (λ e. e.network ≡ r.network) (route_told ports j (record { before = old; after = new }))
      told old new is none =
          let off : (r.port == j) ≡ false = ne_eqb r.port j apart in
          rw (none, is, off) (inl refl)
