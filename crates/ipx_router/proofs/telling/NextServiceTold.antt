-- The next service that is told.
use Rattle.std.proofs.Common.{◌≡◌, sym, ap, ◌∙◌, subst, ℕ, true, not, List, [], ◌∷◌, length, map, filter, arith}
use Rattle.std.specs.List.{prefix_len}
use Rattle.ipx_wire.specs.declared.service.Service.{Service}
use Rattle.ipx_router.specs.inside.Ended.{ServicesAscend}
use Rattle.ipx_router.specs.Told.{name_before, by_name, farther, is_service_told, told_services}
use Rattle.ipx_router.specs.declared.service_offer.ServiceOffer.{ServiceOffer}
use Rattle.ipx_router.specs.inside.Ended.{by_service}
use Rattle.ipx_router.proofs.tables.ToldRises.{ascends-drop, services_rise}
use Rattle.ipx_router.proofs.lists.PutInOrder.{sorted-rising}
use Rattle.ipx_router.proofs.telling.FromTheFirstChosen.{from_chosen, same_chosen, first_chosen, takes_first, no_more}

abbrev pub as_told : ℕ → List ServiceOffer → List Service
as_told number offers = map (λ s. farther s.service) (filter (is_service_told number) offers)

-- what rises is in its order
pub in_order : (number : ℕ) (offers : List ServiceOffer) → ServicesAscend offers → told_services offers number ≡ as_told number offers
in_order number offers ascend = sorted-rising name_before (as_told number offers) (services_rise number offers ascend)

-- the services that are left from the first one on that is told
module _ (number : ℕ) (services left : List ServiceOffer) (up : ServicesAscend services)
    (sought : left ≡ from_chosen (is_service_told number) services) where
  left_ascends : ServicesAscend left
  left_ascends = subst ServicesAscend (sym sought) (ascends-drop by_service (prefix_len (λ s. not (is_service_told number s)) services) services up)

  same_told : as_told number services ≡ as_told number left
  same_told = grind (arith, same_chosen)

  pub no_service : length left ≡ 0 → told_services services number ≡ []
  no_service none = ap by_name (same_told ∙ ap (as_told number) (no_more left none))

  module _ (offer : ServiceOffer) (others : List ServiceOffer) (first : left ≡ offer ∷ others) where
    pub others_ascend : ServicesAscend others
    others_ascend = (subst ServicesAscend first left_ascends).1

    pub is_told : is_service_told number offer ≡ true
    is_told = first_chosen (is_service_told number) services offer others (sym sought ∙ first)

    pub service_next : told_services services number ≡ farther offer.service ∷ told_services others number
    service_next = grind (arith, in_order, same_told, takes_first, is_told, others_ascend)
