-- Records in the order of their keys: what `put` and `in_order` do to look-ups, filters and numbers.
use Rattle.std.proofs.Common.{◌≡◌, refl, sym, ap, ◌∙◌, suc, Bool, true, false, ◌||◌, if◌then◌else◌, List, [], ◌∷◌, ◌++◌, map, filter, find, length, Some, inl, inr, Ordering, Less, Equal, is_eq, is_lt, is_gt, arith}
use Rattle.std.specs.List.{AllByRecursion, list_any}
use Rattle.std.specs.Ordering.{ordering_reverse}
use Rattle.std.specs.Cmp.{IsTotalOrder}
use Rattle.std.proofs.lemmas.Bool.{cases_Bool}
use Rattle.ipx_table.specs.Stands.{put, in_order, older}
use Rattle.ipx_table.specs.declared.held.Held.{Held}
use Rattle.ipx_table.proofs.Singles.{all_then, all-filter}

pub is_equal : (r : Ordering) → is_eq r ≡ true → r ≡ Equal
is_equal r e = grind arith

module _ {O : Type 0} (by_key : O → O → Ordering) (total : IsTotalOrder by_key) where
  turned_eq : (r s : Ordering) → r ≡ ordering_reverse s → is_eq r ≡ is_eq s
  turned_eq r s e = grind arith

  less_one_way : (r s : Ordering) → r ≡ ordering_reverse s → is_lt r ≡ true → is_lt s ≡ false
  less_one_way r s e l = grind arith

  less_other_way : (r s : Ordering) → r ≡ ordering_reverse s → is_eq r ≡ false → is_lt r ≡ false → is_lt s ≡ true
  less_other_way r s e q l = grind arith

  is_less : (r : Ordering) → is_lt r ≡ true → r ≡ Less
  is_less r e = grind arith

  -- keys: either way, and through a third
  pub same_turned : (a b : O) → is_eq (by_key a b) ≡ is_eq (by_key b a)
  same_turned a b = turned_eq (by_key a b) (by_key b a) (total.antisymm a b)

  pub not_both : (a b : O) → is_lt (by_key a b) ≡ true → is_lt (by_key b a) ≡ false
  not_both a b l = less_one_way (by_key a b) (by_key b a) (total.antisymm a b) l

  pub one_of_both : (a b : O) → is_eq (by_key a b) ≡ false → is_lt (by_key a b) ≡ false → is_lt (by_key b a) ≡ true
  one_of_both a b q l = less_other_way (by_key a b) (by_key b a) (total.antisymm a b) q l

  pub less_through : (a b c : O) → is_lt (by_key a b) ≡ true → is_lt (by_key b c) ≡ true → is_lt (by_key a c) ≡ true
  less_through a b c p q = ap is_lt (total.trans a b c (is_less (by_key a b) p) (is_less (by_key b c) q))

  gt_turned : (r s : Ordering) → r ≡ ordering_reverse s → is_gt r ≡ is_lt s
  gt_turned r s e = grind arith

  pub above_turned : (a b : O) → is_gt (by_key a b) ≡ is_lt (by_key b a)
  above_turned a b = gt_turned (by_key a b) (by_key b a) (total.antisymm a b)

  -- what isn't below another isn't below what that one isn't below
  pub not_below_through : (a b c : O) → is_lt (by_key b a) ≡ false → is_lt (by_key c b) ≡ false → is_lt (by_key c a) ≡ false
  not_below_through a b c ba cb = grind arith

  -- x is below h, and not below k: so h isn't below k
  not_less_by_third : (h k x : O) → is_lt (by_key x h) ≡ true → is_lt (by_key x k) ≡ false → is_lt (by_key h k) ≡ false
  not_less_by_third h k x xh kx = grind arith

  -- ---- puts

  pub put_put : (h k : Held O) (xs : List (Held O)) → is_eq (by_key h.offer k.offer) ≡ false → put by_key h (put by_key k xs) ≡ put by_key k (put by_key h xs)
  put_put h k [] apart =
      elim (cases_Bool (is_lt (by_key h.offer k.offer))) [
        | inl below ↦ simp (below, not_both h.offer k.offer below) refl
        | inr above ↦ simp (above, one_of_both h.offer k.offer apart above) refl
      ]
  put_put h k (x ∷ xs) apart =
      elim (cases_Bool (is_lt (by_key x.offer h.offer))) [
        | inl xh ↦ elim (cases_Bool (is_lt (by_key x.offer k.offer))) [
          | inl xk ↦ simp (xh, xk) (ap (λ rest. x ∷ rest) (put_put h k xs apart))
          | inr kx ↦
              let hk : is_lt (by_key h.offer k.offer) ≡ false = not_less_by_third h.offer k.offer x.offer xh kx in
              let kh : is_lt (by_key k.offer h.offer) ≡ true = one_of_both h.offer k.offer apart hk in
              simp (xh, kx, kh) refl
        ]
        | inr hx ↦ elim (cases_Bool (is_lt (by_key x.offer k.offer))) [
          | inl xk ↦
              let kh : is_lt (by_key k.offer h.offer) ≡ false = not_less_by_third k.offer h.offer x.offer xk hx in
              let hk : is_lt (by_key h.offer k.offer) ≡ true = one_of_both k.offer h.offer (same_turned k.offer h.offer ∙ apart) kh in
              simp (hx, xk, hk) refl
          | inr kx ↦ elim (cases_Bool (is_lt (by_key h.offer k.offer))) [
            | inl below ↦ simp (hx, kx, below, not_both h.offer k.offer below) refl
            | inr above ↦ simp (hx, kx, above, one_of_both h.offer k.offer apart above) refl
          ]
        ]
      ]

  -- an offer may be put before or after others of other keys
  pub in_order-mid : (xs : List (Held O)) (h : Held O) (ys : List (Held O)) → AllByRecursion (λ x. is_eq (by_key x.offer h.offer) ≡ false) xs
      → in_order by_key (xs ++ h ∷ ys) ≡ put by_key h (in_order by_key (xs ++ ys))
  in_order-mid [] h ys apart = refl
  in_order-mid (x ∷ xs) h ys apart = grind (arith, in_order-mid xs h ys apart.1, put_put)

  pub length-put : (h : Held O) (xs : List (Held O)) → length (put by_key h xs) ≡ suc (length xs)
  length-put h [] = refl
  length-put h (x ∷ xs) = grind (arith, length-put h xs)

  pub length-in_order : (xs : List (Held O)) → length (in_order by_key xs) ≡ length xs
  length-in_order [] = refl
  length-in_order (x ∷ xs) = length-put x (in_order by_key xs) ∙ ap suc (length-in_order xs)

  list_any-put : (p : Held O → Bool) (h : Held O) (xs : List (Held O)) → list_any p (put by_key h xs) ≡ (p h || list_any p xs)
  list_any-put p h [] = refl
  list_any-put p h (x ∷ xs) = grind (arith, list_any-put p h xs)

  pub list_any-in_order : (p : Held O → Bool) (xs : List (Held O)) → list_any p (in_order by_key xs) ≡ list_any p xs
  list_any-in_order p [] = refl
  list_any-in_order p (x ∷ xs) = list_any-put p x (in_order by_key xs) ∙ ap (λ t. p x || t) (list_any-in_order p xs)

  -- ---- a look-up that ties keys doesn't see the order

  abbrev pub TiesKeys : (Held O → Bool) → Type 0
  TiesKeys p = (x y : Held O) → p x ≡ true → p y ≡ true → is_lt (by_key x.offer y.offer) ≡ false

  find-put : (p : Held O → Bool) → TiesKeys p → (h : Held O) (xs : List (Held O)) → find p (put by_key h xs) ≡ (if p h then Some h else find p xs)
  find-put p ties h [] = refl
  find-put p ties h (x ∷ xs) = grind (arith, find-put p ties h xs)

  pub find-in_order : (p : Held O → Bool) → TiesKeys p → (xs : List (Held O)) → find p (in_order by_key xs) ≡ find p xs
  find-in_order p ties [] = refl
  find-in_order p ties (x ∷ xs) = find-put p ties x (in_order by_key xs) ∙ ap (λ o. if p x then Some x else o) (find-in_order p ties xs)

  -- ---- filters and maps

  -- none of them is below it
  abbrev pub IsLeast : Held O → List (Held O) → Type 0
  IsLeast h xs = AllByRecursion (λ x. is_lt (by_key x.offer h.offer) ≡ false) xs

  -- no record is below one before it
  abbrev pub Rises : List (Held O) → Type 0
  Rises [] = Unit
  Rises (h ∷ rest) = IsLeast h rest × Rises rest

  all-put : (P : Held O → Type 0) (h : Held O) (xs : List (Held O)) → P h → AllByRecursion P xs → AllByRecursion P (put by_key h xs)
  all-put P h [] one all = (one, tt)
  all-put P h (x ∷ xs) one all = grind (arith, all-put P h xs one all.1)

  least_over : (h x : Held O) (xs : List (Held O)) → is_lt (by_key x.offer h.offer) ≡ false → IsLeast x xs → IsLeast h (x ∷ xs)
  least_over h x xs hx least = grind (arith, all_then, is_lt, not_below_through)

  rises-put : (h : Held O) (xs : List (Held O)) → Rises xs → Rises (put by_key h xs)
  rises-put h [] up = (tt, tt)
  rises-put h (x ∷ xs) up = grind (arith, rises-put h xs up.1, is_lt, all-put, not_both, least_over)

  pub rises-in_order : (xs : List (Held O)) → Rises (in_order by_key xs)
  rises-in_order [] = tt
  rises-in_order (x ∷ xs) = rises-put x (in_order by_key xs) (rises-in_order xs)

  put-least : (h : Held O) (xs : List (Held O)) → IsLeast h xs → put by_key h xs ≡ h ∷ xs
  put-least h [] least = refl
  put-least h (x ∷ xs) least = rw least.0 refl

  filter-put : (p : Held O → Bool) (h : Held O) (xs : List (Held O)) → Rises xs
      → filter p (put by_key h xs) ≡ (if p h then put by_key h (filter p xs) else filter p xs)
  filter-put p h [] up = elim (cases_Bool (p h)) [ inl e ↦ rw e refl | inr e ↦ rw e refl ]
  filter-put p h (x ∷ xs) up =
      let rest = filter-put p h xs up.1 in
      elim (cases_Bool (is_lt (by_key x.offer h.offer))) [
        | inl below ↦ elim (cases_Bool (p x)) [
          | inl passes ↦ elim (cases_Bool (p h)) [
            | inl both ↦ simp (below, passes, rest, both) refl
            | inr only ↦ simp (below, passes, rest, only) refl
          ]
          | inr fails ↦ simp (below, fails) rest
        ]
        | inr above ↦ elim (cases_Bool (p h)) [
          | inl passes ↦
              let least = put-least h (filter p (x ∷ xs)) (all-filter (λ y. is_lt (by_key y.offer h.offer) ≡ false) p (x ∷ xs) (least_over h x xs above up.0)) in
              rw (above, passes) (sym least)
          | inr fails ↦ rw (above, fails) refl
        ]
      ]

  pub filter-in_order : (p : Held O → Bool) (xs : List (Held O)) → filter p (in_order by_key xs) ≡ in_order by_key (filter p xs)
  filter-in_order p [] = refl
  filter-in_order p (x ∷ xs) = grind (arith, filter-in_order p xs, filter-put, rises-in_order)

  older-put : (h : Held O) (xs : List (Held O)) → map older (put by_key h xs) ≡ put by_key (older h) (map older xs)
  older-put h [] = refl
  older-put h (x ∷ xs) = grind (arith, older-put h xs)

  pub older-in_order : (xs : List (Held O)) → map older (in_order by_key xs) ≡ in_order by_key (map older xs)
  older-in_order [] = refl
  older-in_order (x ∷ xs) = older-put x (in_order by_key xs) ∙ ap (put by_key (older x)) (older-in_order xs)

  -- ---- what holds of each

  from_put : (P : Held O → Type 0) (h : Held O) (xs : List (Held O)) → AllByRecursion P (put by_key h xs) → P h × AllByRecursion P xs
  from_put P h [] all = all
  from_put P h (x ∷ xs) all =
      elim (cases_Bool (is_lt (by_key x.offer h.offer))) [
        | inl e ↦ let parts : P x × AllByRecursion P (put by_key h xs) = rw e at all in
            let rest = from_put P h xs parts.1 in (rest.0, (parts.0, rest.1))
        | inr e ↦ rw e at all
      ]

  pub all-in_order : (P : Held O → Type 0) (xs : List (Held O)) → AllByRecursion P xs → AllByRecursion P (in_order by_key xs)
  all-in_order P [] all = tt
  all-in_order P (x ∷ xs) all = all-put P x (in_order by_key xs) all.0 (all-in_order P xs all.1)

  pub all-from_order : (P : Held O → Type 0) (xs : List (Held O)) → AllByRecursion P (in_order by_key xs) → AllByRecursion P xs
  all-from_order P [] all = tt
  all-from_order P (x ∷ xs) all =
      let parts = from_put P x (in_order by_key xs) all in (parts.0, all-from_order P xs parts.1)
