-- The nearest of services, found in one pass.
use Rattle.std.proofs.Common.{arith}
use Rattle.std.proofs.Common.{rules}
use Rattle.std.proofs.Common.{◌≡◌, Bool, true, false, if◌then◌else◌, List, [], ◌∷◌, ◌++◌, ℕ, Ordering, Option}
use Rattle.std.specs.Cmp.{IsTotalOrder}
use Rattle.std.specs.Option.{option_to_list}
use Rattle.std.specs.Ordering.{nat_cmp, ordering_then}
use Rattle.std.proofs.lemmas.Cmp.{nat_cmp_total, nat_list_cmp_total, on_total, then_total}
use Rattle.ipx_table.proofs.Order.{not_both, not_below_through}
use Rattle.ipx_wire.specs.Name.{name_order}
use Rattle.ipx_wire.specs.declared.service.Service.{Service}
use Rattle.ipx_router.specs.Sends.{is_nearer, nearest_of, of_kind}
use Rattle.ipx_router.specs.inside.Selection.{is_nearest_yet, is_of_kind}
use Rattle.ipx_router.proofs.lists.PutInOrder.{IsOrder}

-- ---- what is nearer is an order

abbrev by_distance : Service → Service → Ordering
by_distance a b = ordering_then (nat_cmp a.hops b.hops) (ordering_then (name_order a.name b.name) (nat_cmp a.kind b.kind))

distance_total : IsTotalOrder by_distance
distance_total =
    then_total (on_total (λ (s : Service). s.hops) nat_cmp_total)
    (then_total (on_total (λ (s : Service). s.name) nat_list_cmp_total) (on_total (λ (s : Service). s.kind) nat_cmp_total))

nearer_orders : IsOrder is_nearer
nearer_orders = record {
  one_way = λ a b less. not_both by_distance distance_total a b less;
  through = λ a b c ab bc. not_below_through by_distance distance_total c b a bc ab;
}

-- ---- the first of two that are next to each other gives way

module _ {X : Type 0} (nearer : X → X → Bool) (order : IsOrder nearer) where
  -- an item, or the nearest of those behind it
  abbrev pick : X → List X → List X
  pick x others = elim others [ [] ↦ x ∷ [] | ◌∷◌ best rest ↦ if nearer best x then best ∷ [] else x ∷ [] ]

  nearer_through : (a b c : X) → nearer a b ≡ true → nearer b c ≡ true → nearer a c ≡ true
  nearer_through a b c ab bc = grind arith

  gives_way : (best x : X) (others : List X) → pick best (pick x others) ≡ pick (if nearer x best then x else best) others
  gives_way best x others = search (rules, nearer_through)

nearest_step : (best service : Service) (rest : List Service)
    → nearest_of (best ∷ service ∷ rest) ≡ nearest_of ((if is_nearer service best then service else best) ∷ rest)
nearest_step best service rest = gives_way is_nearer nearer_orders best service (nearest_of rest)

-- ---- a pass over services of a type

-- the first one, or a nearer one, takes the place of the best
pub nearest_yet : (kind : ℕ) (best : Option Service) (service : Service) → is_of_kind kind service ≡ true → is_nearest_yet best service ≡ true
    → (rest : List Service) → nearest_of (service ∷ of_kind kind rest) ≡ nearest_of (option_to_list best ++ of_kind kind (service ∷ rest))
nearest_yet kind best service same first rest = grind (arith, nearest_step)

-- and another one doesn't
pub nearest_still : (kind : ℕ) (best : Option Service) (service : Service) → is_of_kind kind service ≡ true → is_nearest_yet best service ≡ false
    → (rest : List Service) → nearest_of (option_to_list best ++ of_kind kind rest) ≡ nearest_of (option_to_list best ++ of_kind kind (service ∷ rest))
nearest_still kind best service same first rest = grind (arith, nearest_step)
