-- The first service of a table: sent, as what is told and selected, or passed over.
use Rattle.std.proofs.Common.{◌≡◌, ◌∙◌, sym, ap, subst, ℕ, true, false, List, ◌∷◌, ◌++◌, arith}
use Rattle.std.proofs.lemmas.Bool.{and_parts}
use Rattle.std.specs.List.{flat_map}
use Rattle.ipx_wire.specs.declared.service.Service.{Service}
use Rattle.ipx_router.specs.Told.{farther, is_service_told, told_services}
use Rattle.ipx_router.specs.declared.advertising.selection.ServiceSelection.{ServiceSelection}
use Rattle.ipx_router.specs.declared.service_offer.ServiceOffer.{ServiceOffer}
use Rattle.ipx_router.specs.inside.Ended.{ServicesAscend}
use Rattle.ipx_router.specs.inside.Selection.{is_service_selected, is_service_sent, service_selected_by, service_sent}
use Rattle.ipx_router.proofs.telling.FromTheFirstChosen.{skips_first, takes_first}
use Rattle.ipx_router.proofs.telling.NextServiceTold.{as_told, in_order}
use Rattle.ipx_router.proofs.telling.SentOfTold.{not_sent_of_offer, sent_of_offer}

module _ (number : ℕ) (selection : ServiceSelection) (offer : ServiceOffer) (others rest : List ServiceOffer)
    (up : ServicesAscend rest) (first : rest ≡ offer ∷ others) where
  pub others_rise : ServicesAscend others
  others_rise = (subst ServicesAscend first up).1

  abbrev sent : List ServiceOffer → List Service
  sent offers = flat_map (service_selected_by selection) (told_services offers number)

  in_front : told_services rest number ≡ as_told number (offer ∷ others)
  in_front = in_order number rest up ∙ ap (as_told number) first

  told_first : is_service_told number offer ≡ true → sent rest ≡ service_selected_by selection (farther offer.service) ++ sent others
  told_first told = grind (arith, in_front, takes_first, in_order, others_rise)

  pub first_sent : true ≡ is_service_sent number selection offer → sent rest ≡ service_sent selection offer.service ∷ sent others
  first_sent is = grind (arith, and_parts, told_first, sent_of_offer)

  pub is_told : true ≡ is_service_sent number selection offer → is_service_told number offer ≡ true
  is_told is = (and_parts (is_service_told number offer) (is_service_selected selection offer.service) (sym is)).0

  pub first_not_sent : false ≡ is_service_sent number selection offer → sent rest ≡ sent others
  first_not_sent is = grind (arith, told_first, not_sent_of_offer, in_front, skips_first, in_order, others_rise)
