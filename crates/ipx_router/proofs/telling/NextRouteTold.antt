-- The next route that is told: the network of a port, or a route of the table.
use Rattle.std.proofs.Common.{◌≡◌, refl, sym, ap, ◌∙◌, subst, ℕ, true, false, true≢false, not, List, [], ◌∷◌, length, map, Some, arith}
use Rattle.std.specs.List.{prefix_len}
use Rattle.ipx_wire.specs.declared.rip.RipEntry.{RipEntry}
use Rattle.ipx_router.specs.inside.Ended.{RoutesAscend}
use Rattle.ipx_router.specs.Sorted.{put_all}
use Rattle.ipx_router.specs.inside.Sources.{waits_before}
use Rattle.ipx_router.specs.Told.{network_before, told_at, entry_of, is_route_told, learned}
use Rattle.ipx_router.specs.inside.ToldRoutes.{routes_left}
use Rattle.ipx_router.specs.declared.route_offer.RouteOffer.{RouteOffer}
use Rattle.ipx_router.specs.inside.Ended.{by_route}
use Rattle.ipx_router.proofs.tables.ToldRises.{network_orders, ascends-drop, rises_told}
use Rattle.ipx_router.proofs.lists.PutInOrder.{Rises}
use Rattle.ipx_router.proofs.telling.FromTheFirstChosen.{from_chosen, starts, same_chosen, first_chosen, takes_first, no_more}
use Rattle.ipx_router.proofs.lists.NextOfTwoSources.{waiting_next, other_next}

-- the routes that are left from the first one on that is told
module _ (number cost : ℕ) (waiting : List RipEntry) (routes left : List RouteOffer) (up : RoutesAscend routes)
    (sought : left ≡ from_chosen (is_route_told number) routes) where
  pub left_ascends : RoutesAscend left
  left_ascends = subst RoutesAscend (sym sought) (ascends-drop by_route (prefix_len (λ r. not (is_route_told number r)) routes) routes up)

  abbrev as_told : List RouteOffer → List RipEntry
  as_told offers = map (told_at cost) (learned offers number)

  same_told : as_told routes ≡ as_told left
  same_told = grind (arith, same_chosen)

  -- where no route is left, the networks are
  networks_left : length left ≡ 0 → routes_left number cost waiting routes ≡ waiting
  networks_left none = ap (put_all network_before waiting) (same_told ∙ ap as_told (no_more left none))

  networks_alone : length left ≡ 0 → (rest : List RipEntry) → routes_left number cost rest left ≡ rest
  networks_alone none rest = ap (λ (offers : List RouteOffer). put_all network_before rest (as_told offers)) (no_more left none)

  pub alone_next : length left ≡ 0 → (next : RipEntry) (rest : List RipEntry) → waiting ≡ next ∷ rest
      → routes_left number cost waiting routes ≡ next ∷ routes_left number cost rest left
  alone_next none next rest is = networks_left none ∙ is ∙ ap (λ (es : List RipEntry). next ∷ es) (sym (networks_alone none rest))

  abbrev pub NothingLeft : Type 0
  NothingLeft = (routes_left number cost waiting routes ≡ []) × (routes_left number cost waiting left ≡ [])

  pub nothing_left : length left ≡ 0 → length waiting ≡ 0 → NothingLeft
  nothing_left none no_network = (networks_left none ∙ no_more waiting no_network, networks_alone none waiting ∙ no_more waiting no_network)

  module _ (route : RouteOffer) (others : List RouteOffer) (first : left ≡ route ∷ others) where
    pub others_ascend : RoutesAscend others
    others_ascend = (subst RoutesAscend first left_ascends).1

    pub is_told : is_route_told number route ≡ true
    is_told = first_chosen (is_route_told number) routes route others (sym sought ∙ first)

    abbrev entry : RipEntry
    entry = told_at cost (entry_of route)

    left_told : as_told left ≡ entry ∷ as_told others
    left_told = grind (arith, takes_first, is_told)

    rise : Rises network_before (entry ∷ as_told others)
    rise = subst (Rises network_before) left_told (rises_told cost number left left_ascends)

    all_told : routes_left number cost waiting routes ≡ put_all network_before waiting (entry ∷ as_told others)
    all_told = ap (put_all network_before waiting) (same_told ∙ left_told)

    pub learned_next : waits_before network_before entry waiting ≡ false
        → routes_left number cost waiting routes ≡ entry ∷ routes_left number cost waiting others
    learned_next waits = all_told ∙ other_next network_before waiting (as_told others) entry rise waits

    pub direct_next : waits_before network_before entry waiting ≡ true → (next : RipEntry) (rest : List RipEntry) → waiting ≡ next ∷ rest
        → routes_left number cost waiting routes ≡ next ∷ routes_left number cost rest left
    direct_next waits next rest is =
        all_told
        ∙ waiting_next network_before network_orders waiting rest (as_told others) (Some next) entry rise waits is
        ∙ ap (λ (es : List RipEntry). next ∷ put_all network_before rest es) (sym left_told)

    -- where a network waits, something does
    pub one_waits : waits_before network_before entry waiting ≡ true → length waiting ≡ 0 → NothingLeft
    one_waits waits none = absurd (true≢false (sym waits ∙ ap (waits_before network_before entry) (no_more waiting none)))

-- ---- the first of the routes that are left

module _ (number cost : ℕ) (waiting : List RipEntry) (route : RouteOffer) (others : List RouteOffer) where
  -- it is next where it is told and comes before what waits
  pub told_first : RoutesAscend (route ∷ others) → is_route_told number route ≡ true
      → waits_before network_before (told_at cost (entry_of route)) waiting ≡ false
      → routes_left number cost waiting (route ∷ others) ≡ told_at cost (entry_of route) ∷ routes_left number cost waiting others
  told_first up told waits =
      learned_next number cost waiting (route ∷ others) (route ∷ others) up (sym (starts (is_route_told number) route others told)) route others refl waits
