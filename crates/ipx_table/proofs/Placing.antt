-- Records with their slots: what a change of one place does to what the table tells.
use Rattle.std.proofs.lemmas.Grind.{common_steps}
use Rattle.std.proofs.Common.{◌≡◌, refl, sym, ap, ◌∙◌, subst, ℕ, ◌<◌, zero, suc, true, false, List, [], ◌∷◌, map, filter, insert, set, remove, slice_get, Option, None, Some, is_some, inl, inr, arith, true≢false, Ordering, is_lt, is_eq, is_gt}
use Rattle.std.specs.List.{AllByRecursion}
use Rattle.std.specs.Cmp.{IsTotalOrder}
use Rattle.std.proofs.lemmas.Bool.{cases_Bool}
use Rattle.std.proofs.lemmas.Cmp.{alike_right}
use Rattle.std.proofs.lemmas.List.{map-set}
use Rattle.ipx_table.specs.Alive.{lifetime}
use Rattle.ipx_table.specs.inside.AfterOffer.{fresh}
use Rattle.ipx_table.specs.Reading.{same_key}
use Rattle.ipx_table.specs.Slots.{seen, age_at}
use Rattle.ipx_table.specs.inside.Clock.{IsSorted}
use Rattle.ipx_table.specs.Stands.{put, in_order, IsAscending, IsDistinct, IsKept}
use Rattle.ipx_table.specs.declared.held.Held.{Held}
use Rattle.ipx_table.proofs.Order as order
use Rattle.ipx_table.proofs.Singles.{all_then, none-filter}

-- ---- ages

pub age_now : (clock : ℕ) → clock < lifetime → age_at clock clock ≡ 0
age_now clock going = omega (arith, going)

pub young_at : (clock slot : ℕ) → age_at clock slot < lifetime
young_at clock slot = omega arith

pub young-seen : {O : Type 0} (clock : ℕ) (ps : List (O × ℕ)) → AllByRecursion (λ h. h.age < lifetime) (seen clock ps)
young-seen clock [] = tt
young-seen clock (p ∷ ps) = (young_at clock p.1, young-seen clock ps)

-- ---- what is told, place by place

module _ {X Y : Type 0} (f : X → Y) where
  pub map-insert : (xs : List X) (k : ℕ) (x : X) → map f (insert xs k x) ≡ insert (map f xs) k (f x)
  map-insert xs zero x = refl
  map-insert [] (suc k) x = refl
  map-insert (y ∷ xs) (suc k) x = ap (λ rest. f y ∷ rest) (map-insert xs k x)

  pub map-remove : (xs : List X) (k : ℕ) → map f (remove xs k) ≡ remove (map f xs) k
  map-remove [] zero = refl
  map-remove [] (suc k) = refl
  map-remove (y ∷ xs) zero = refl
  map-remove (y ∷ xs) (suc k) = ap (λ rest. f y ∷ rest) (map-remove xs k)

pub seen-insert : {O : Type 0} (clock : ℕ) → clock < lifetime → (ps : List (O × ℕ)) (k : ℕ) (offer : O)
    → seen clock (insert ps k (offer, clock)) ≡ insert (seen clock ps) k (fresh offer)
seen-insert clock going ps k offer = grind (arith, map-insert, age_now)

pub seen-set : {O : Type 0} (clock : ℕ) → clock < lifetime → (ps : List (O × ℕ)) (k : ℕ) (offer : O)
    → seen clock (set ps k (offer, clock)) ≡ set (seen clock ps) k (fresh offer)
seen-set clock going ps k offer = grind (arith, map-set, age_now)

-- ---- slots

pub all-set : {X : Type 0} (P : X → Type 0) (xs : List X) (k : ℕ) (x : X) → AllByRecursion P xs → P x → AllByRecursion P (set xs k x)
all-set P xs k x all one = grind (arith, common_steps)

pub all-insert : {X : Type 0} (P : X → Type 0) (xs : List X) (k : ℕ) (x : X) → AllByRecursion P xs → P x → AllByRecursion P (insert xs k x)
all-insert P xs k x all one = grind (arith, common_steps)

pub all-remove : {X : Type 0} (P : X → Type 0) (xs : List X) (k : ℕ) → AllByRecursion P xs → AllByRecursion P (remove xs k)
all-remove P xs k all = grind (arith, common_steps)

all-got : {X : Type 0} (P : X → Type 0) (xs : List X) (k : ℕ) (x : X) → AllByRecursion P xs → slice_get xs k ≡ Some x → P x
all-got P [] k x all e = absurd (true≢false (sym (ap is_some e)))
all-got P (y ∷ xs) zero x all e = subst P (ap (λ (o : Option _). elim o [ None ↦ y | Some z ↦ z ]) e) all.0
all-got P (y ∷ xs) (suc k) x all e = all-got P xs k x all.1 e

-- ---- order

module _ {O : Type 0} (by_key : O → O → Ordering) (total : IsTotalOrder by_key) where
  abbrev AllBehind : Held O → List (Held O) → Type 0
  AllBehind h xs = AllByRecursion (λ x. is_lt (by_key h.offer x.offer) ≡ true) xs

  -- what ascends is in order
  pub in_order-ascending : (held : List (Held O)) → IsAscending by_key held → in_order by_key held ≡ held
  in_order-ascending [] up = refl
  in_order-ascending (h ∷ held) up = ap (put by_key h) (in_order-ascending held up.1) ∙ first h held up.0
    where
      first : (h : Held O) (xs : List (Held O)) → AllBehind h xs → put by_key h xs ≡ h ∷ xs
      first h [] all = refl
      first h (x ∷ xs) all = rw (order.not_both by_key total h.offer x.offer all.0) refl

  lt_not_eq : (r : Ordering) → is_lt r ≡ true → is_eq r ≡ false
  lt_not_eq r e = elim (cases_Bool (is_eq r)) [ inr f ↦ f | inl f ↦ absurd (true≢false (sym e ∙ ap is_lt (order.is_equal r f))) ]

  -- of what ascends, no two are of one key
  pub distinct-ascending : (held : List (Held O)) → IsAscending by_key held → IsDistinct by_key held
  distinct-ascending [] up = λ q. omega arith
  distinct-ascending (h ∷ held) up = λ q. elim (cases_Bool (same_key by_key h.offer q)) [
    | inr other ↦ rw other (distinct-ascending held up.1 q)
    | inl same ↦
        let none : filter (λ x. same_key by_key x.offer q) held ≡ [] =
        none-filter (λ x. same_key by_key x.offer q) held
        (all_then (λ x. is_lt (by_key h.offer x.offer) ≡ true) (λ x. same_key by_key x.offer q ≡ false) (λ x less. apart h x q same less) held up.0) in
        rw (same, none) (omega arith)
  ]
    where
      apart : (h x : Held O) (q : O) → same_key by_key h.offer q ≡ true → is_lt (by_key h.offer x.offer) ≡ true → same_key by_key x.offer q ≡ false
      apart h x q same less = elim (cases_Bool (same_key by_key x.offer q)) [
        | inr e ↦ e
        | inl e ↦
            let alike = alike_right total h.offer q x.offer (order.is_equal (by_key h.offer q) same) in
            let not_less = order.not_both by_key total h.offer x.offer less in
            absurd (true≢false (sym (sym (lt_not_eq (by_key h.offer x.offer) less) ∙ order.same_turned by_key total h.offer x.offer ∙ ap is_eq alike ∙ e)))
      ]

  pub kept-sorted : (ps : List (O × ℕ)) (clock : ℕ) → IsSorted by_key ps clock → IsKept by_key (seen clock ps)
  kept-sorted ps clock sorted = record { distinct = distinct-ascending (seen clock ps) sorted.ascending; young = young-seen clock ps }

  -- another record of the same key in its place
  pub ascending-set : (held : List (Held O)) (k : ℕ) (it h : Held O) → slice_get held k ≡ Some it → is_eq (by_key it.offer h.offer) ≡ true
      → IsAscending by_key held → IsAscending by_key (set held k h)
  ascending-set [] k it h at same up = tt
  ascending-set (x ∷ held) zero it h at same up =
      let alike = λ (y : O). alike_right total it.offer h.offer y (order.is_equal (by_key it.offer h.offer) same) in
      let behind : AllBehind it held = subst (λ (z : Held O). AllBehind z held) (ap (λ (o : Option (Held O)). elim o [ None ↦ x | Some z ↦ z ]) at) up.0 in (
        all_then (λ y. is_lt (by_key it.offer y.offer) ≡ true) (λ y. is_lt (by_key h.offer y.offer) ≡ true)
            (λ y less. sym (order.above_turned by_key total y.offer h.offer) ∙ ap is_gt (sym (alike y.offer)) ∙ order.above_turned by_key total y.offer it.offer ∙ less) held behind,
        up.1,
      )
  ascending-set (x ∷ held) (suc k) it h at same up =
      let alike = alike_right total it.offer h.offer x.offer (order.is_equal (by_key it.offer h.offer) same) in (
        all-set (λ y. is_lt (by_key x.offer y.offer) ≡ true) held k h up.0
            (ap is_lt (sym alike) ∙ all-got (λ y. is_lt (by_key x.offer y.offer) ≡ true) held k it up.0 at),
        ascending-set held k it h at same up.1,
      )
