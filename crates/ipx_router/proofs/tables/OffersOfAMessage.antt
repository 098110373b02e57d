-- What a message offers, no more than it has entries, and what one event more says.
use Rattle.std.proofs.Common.{◌≡◌, refl, ap, ◌∙◌, ℕ, suc, ◌≤◌, List, [], ◌∷◌, ◌++◌, map, length, Option, None, Some, arith, sym, append_assoc, append-nil}
use Rattle.ipx_table.specs.Facts.{Fact, Offered}
use Rattle.ipx_wire.specs.declared.node.Node.{Node}
use Rattle.ipx_wire.specs.declared.rip.RipEntry.{RipEntry}
use Rattle.ipx_wire.specs.declared.sap_entries.SapEntry.{SapEntry}
use Rattle.ipx_router.specs.Facts.{routes_offered, services_offered, facts_from}
use Rattle.ipx_router.specs.History.{Event, History}
use Rattle.ipx_router.specs.Port.{Port}
use Rattle.ipx_router.specs.declared.service_offer.ServiceOffer.{ServiceOffer}

-- ---- what a message offers

-- the facts are offers, and not more than stated
pub record FewOffers {O : Type 0} (most : ℕ) (facts : List (Fact O)) : Type 0 where
  pub offered : List O
  pub are : facts ≡ map Offered offered
  pub few : length offered ≤ most

pub no_offers : {O : Type 0} → FewOffers {O = O} 0 []
no_offers = record { offered = []; are = refl; few = omega arith }

one_more : {O : Type 0} (most : ℕ) (offer : O) (facts : List (Fact O)) → FewOffers most facts → FewOffers (suc most) (Offered offer ∷ facts)
one_more most offer facts rest = record {
  offered = offer ∷ rest.offered;
  are = ap (λ fs. Offered offer ∷ fs) rest.are;
  few = omega (arith, rest.few);
}

less_one : {O : Type 0} (most : ℕ) (facts : List (Fact O)) → FewOffers most facts → FewOffers (suc most) facts
less_one most facts rest = record { offered = rest.offered; are = rest.are; few = omega (arith, rest.few) }

pub few_routes : (ports : List Port) (number : ℕ) (node : Node) (entries : List RipEntry)
    → FewOffers (length entries) (routes_offered ports number node entries)
few_routes ports number node [] = no_offers
few_routes ports number node (entry ∷ entries) = grind (arith, few_routes ports number node entries, less_one, one_more)

-- an entry without a name offers nothing
named : (number : ℕ) (node : Node) (entry : SapEntry) (name : Option (List ℕ)) (most : ℕ) (facts : List (Fact ServiceOffer)) → FewOffers most facts
    → FewOffers (suc most) (elim name [
      | None ↦ []
      | Some name ↦ Offered (record {
        service = record { kind = entry.kind; name = name; address = entry.address; hops = entry.hops };
        port = number;
        node = node;
      }) ∷ []
    ] ++ facts)
named number node entry name most facts rest = grind (arith, less_one, one_more)

pub few_services : (number : ℕ) (node : Node) (entries : List SapEntry) → FewOffers (length entries) (services_offered number node entries)
few_services number node [] = no_offers
few_services number node (entry ∷ entries) = grind (arith, few_services number node entries, named)

-- ---- one event more

pub facts_from-more : {O : Type 0} (says : History → Event → List (Fact O)) (before history : History) (event : Event)
    → facts_from says before (history ++ event ∷ []) ≡ facts_from says before history ++ says (before ++ history) event
facts_from-more says before [] event = append-nil (says before event) ∙ ap (λ h. says h event) (sym (append-nil before))
facts_from-more says before (first ∷ history) event =
    let now = says before first in
    let next = before ++ first ∷ [] in
    ap (λ fs. now ++ fs) (facts_from-more says next history event ∙ ap (λ h. facts_from says next history ++ says h event) (append_assoc before (first ∷ []) history))
    ∙ sym (append_assoc now (facts_from says next history) (says (before ++ first ∷ history) event))
