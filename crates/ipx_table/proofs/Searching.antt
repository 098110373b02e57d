-- Lists that ascend: what they answer to the question for a key, and where what has it stands.
use Rattle.std.proofs.lemmas.Grind.{common_steps}
use Rattle.std.proofs.Common.{◌≡◌, refl, sym, ap, ◌∙◌, ℕ, ◌<◌, ◌==◌, zero, suc, nat_lt, Bool, true, false, ◌⊎◌, List, [], ◌∷◌, map, filter, find, insert, length, get_or, slice_get, inl, inr, arith, true≢false, Ordering, Less, Equal, Greater, is_lt, is_eq, is_gt}
use Rattle.std.specs.List.{AllByRecursion, list_any}
use Rattle.std.specs.Cmp.{IsTotalOrder}
use Rattle.std.proofs.lemmas.Bool.{lt-ltb, le-ltb, ne_eqb}
use Rattle.ipx_table.specs.Answers.{Answers, places, answer_at}
use Rattle.ipx_table.specs.inside.Sought.{answers_to}
use Rattle.ipx_table.specs.Stands.{Ascends, IsAscending, put}
use Rattle.ipx_table.specs.declared.held.Held.{Held}

-- an ordering is one of three
pub cases_Ordering : (r : Ordering) → (r ≡ Less) ⊎ (r ≡ Equal) ⊎ (r ≡ Greater)
cases_Ordering r = grind arith

pub is_greater : (r : Ordering) → is_gt r ≡ true → r ≡ Greater
is_greater r e = grind arith

lt-suc : (a b : ℕ) → nat_lt (suc a) (suc b) ≡ nat_lt a b
lt-suc a b = grind arith

eq-suc : (a b : ℕ) → (suc a == suc b) ≡ (a == b)
eq-suc a b = grind arith

lt-zero : (k : ℕ) → nat_lt k 0 ≡ false
lt-zero k = le-ltb k 0 (omega arith)

eq-zero : (k : ℕ) → (suc k == 0) ≡ false
eq-zero k = ne_eqb (suc k) 0 (λ e. omega (arith, e))

-- ---- a comparison that a list ascends by

module _ {X : Type 0} (by_key : X → X → Ordering) (compare : X → Ordering)
    (passes : (x y : X) → is_lt (by_key x y) ≡ true → is_lt (compare x) ≡ false → compare y ≡ Greater) where
  abbrev AllAbove : List X → Type 0
  AllAbove xs = AllByRecursion (λ x. compare x ≡ Greater) xs

  above_first : (x : X) (xs : List X) → is_lt (compare x) ≡ false → AllByRecursion (λ y. is_lt (by_key x y) ≡ true) xs → AllAbove xs
  above_first x [] e all = tt
  above_first x (y ∷ ys) e all = (passes x y all.0 e, above_first x ys e all.1)

  below-above : (xs : List X) → AllAbove xs → filter (λ x. is_lt (compare x)) xs ≡ []
  below-above [] all = refl
  below-above (x ∷ xs) all = rw all.0 (below-above xs all.1)

  held-above : (xs : List X) → AllAbove xs → list_any (λ x. is_eq (compare x)) xs ≡ false
  held-above [] all = refl
  held-above (x ∷ xs) all = rw all.0 (held-above xs all.1)

  above-above : (xs : List X) → AllAbove xs → length (filter (λ x. is_gt (compare x)) xs) ≡ length xs
  above-above [] all = refl
  above-above (x ∷ xs) all = rw all.0 (ap suc (above-above xs all.1))

  get-above : (xs : List X) (k : ℕ) (d : X) → k < length xs → AllAbove xs → compare (get_or xs k d) ≡ Greater
  get-above xs k d l all = grind (arith, common_steps)

  -- the answers are as many as the places
  pub places_to : (xs : List X) → Ascends by_key xs → length xs ≡ places (answers_to compare xs)
  places_to [] up = refl
  places_to (x ∷ xs) up =
      elim (cases_Ordering (compare x)) [
        | inl less ↦ let ih = places_to xs up.1 in rw less (omega (arith, ih))
        | inr rest ↦ elim rest [
          | inl equal ↦
              let all = above_first x xs (ap is_lt equal) up.0 in
              rw (equal, below-above xs all, above-above xs all) (omega arith)
          | inr greater ↦
              let all = above_first x xs (ap is_lt greater) up.0 in
              rw (greater, below-above xs all, held-above xs all, above-above xs all) (omega arith)
        ]
      ]

  shift : (b k : ℕ) (h : Bool) → answer_at (record { below = b; held = h; above = 0 }) k ≡ answer_at (record { below = suc b; held = h; above = 0 }) (suc k)
  shift b k h = rw (lt-suc k b, eq-suc k b) refl

  -- and each is what the comparison says
  pub answered : (xs : List X) (k : ℕ) (d : X) → k < length xs → Ascends by_key xs → compare (get_or xs k d) ≡ answer_at (answers_to compare xs) k
  answered [] k d l up = absurd (omega (arith, l))
  answered (x ∷ xs) zero d l up =
      elim (cases_Ordering (compare x)) [
        | inl less ↦
            let first : nat_lt 0 (suc (length (filter (λ y. is_lt (compare y)) xs))) ≡ true = lt-ltb 0 (suc (length (filter (λ y. is_lt (compare y)) xs))) (omega arith) in
            rw (less, first) refl
        | inr rest ↦ elim rest [
          | inl equal ↦ rw (equal, below-above xs (above_first x xs (ap is_lt equal) up.0)) refl
          | inr greater ↦
              let all = above_first x xs (ap is_lt greater) up.0 in
              rw (greater, below-above xs all, held-above xs all) refl
        ]
      ]
  answered (x ∷ xs) (suc k) d l up =
      elim (cases_Ordering (compare x)) [
        | inl less ↦ rw less (answered xs k d (omega (arith, l)) up.1 ∙ shift (length (filter (λ y. is_lt (compare y)) xs)) k (list_any (λ y. is_eq (compare y)) xs))
        | inr rest ↦ elim rest [
          | inl equal ↦
              let all = above_first x xs (ap is_lt equal) up.0 in
              rw (equal, below-above xs all, lt-zero (suc k), eq-zero k) (get-above xs k d (omega (arith, l)) all)
          | inr greater ↦
              let all = above_first x xs (ap is_lt greater) up.0 in
              rw (greater, below-above xs all, held-above xs all, lt-zero (suc k)) (get-above xs k d (omega (arith, l)) all)
        ]
      ]

  -- what stands right behind those below
  pub get-below : (xs : List X) → Ascends by_key xs → list_any (λ x. is_eq (compare x)) xs ≡ true
      → slice_get xs (length (filter (λ x. is_lt (compare x)) xs)) ≡ find (λ x. is_eq (compare x)) xs
  get-below [] up held = absurd (true≢false (sym held))
  get-below (x ∷ xs) up held =
      elim (cases_Ordering (compare x)) [
        | inl less ↦ let more : list_any (λ y. is_eq (compare y)) xs ≡ true = rw less at held in rw less (get-below xs up.1 more)
        | inr rest ↦ elim rest [
          | inl equal ↦ rw (equal, below-above xs (above_first x xs (ap is_lt equal) up.0)) refl
          | inr greater ↦
              let all = above_first x xs (ap is_lt greater) up.0 in
              let none : false ≡ true = rw (greater, held-above xs all) at held in absurd (true≢false (sym none))
        ]
      ]

-- a place that answers that it is the sought one
pub equal_at : (answers : Answers) (k : ℕ) → answer_at answers k ≡ Equal → (k ≡ answers.below) × (true ≡ answers.held)
equal_at answers k e = grind arith

-- ---- the comparison with a key

module _ {K : Type 0} (key_order : K → K → Ordering) (total : IsTotalOrder key_order) where
  -- what is above something that isn't below a key, is above the key
  pub through_key : (a b key : K) → is_lt (key_order a b) ≡ true → is_lt (key_order a key) ≡ false → key_order b key ≡ Greater
  through_key a b key less not_below = grind arith

module _ {O : Type 0} (by_key : O → O → Ordering) (total : IsTotalOrder by_key) where
  pub ascends-held : (held : List (Held O)) → IsAscending by_key held → Ascends (λ (a b : Held O). by_key a.offer b.offer) held
  ascends-held held up = grind arith

  pub ascends-offers : (held : List (Held O)) → IsAscending by_key held → Ascends by_key (map (λ h. h.offer) held)
  ascends-offers [] up = tt
  ascends-offers (h ∷ held) up = (each held up.0, ascends-offers held up.1)
    where
      each : (xs : List (Held O)) → AllByRecursion (λ x. is_lt (by_key h.offer x.offer) ≡ true) xs → AllByRecursion (λ o. is_lt (by_key h.offer o) ≡ true) (map (λ x. x.offer) xs)
      each [] all = tt
      each (x ∷ xs) all = (all.0, each xs all.1)

  -- a record of a new key, put in its place
  pub insert-below : (held : List (Held O)) (h : Held O) → IsAscending by_key held → list_any (λ x. is_eq (by_key x.offer h.offer)) held ≡ false
      → insert held (length (filter (λ x. is_lt (by_key x.offer h.offer)) held)) h ≡ put by_key h held
  insert-below [] h up none = refl
  insert-below (x ∷ held) h up none =
      elim (cases_Ordering (by_key x.offer h.offer)) [
        | inl less ↦ let more : list_any (λ y. is_eq (by_key y.offer h.offer)) held ≡ false = rw less at none in
            rw less (ap (λ rest. x ∷ rest) (insert-below held h up.1 more))
        | inr rest ↦ elim rest [
          | inl equal ↦ let no : true ≡ false = rw equal at none in absurd (true≢false no)
          | inr greater ↦
              rw (
                greater,
                below-above (λ (a b : Held O). by_key a.offer b.offer) (λ y. by_key y.offer h.offer)
                    (λ a b less e. through_key by_key total a.offer b.offer h.offer less e) held
                    (above_first (λ (a b : Held O). by_key a.offer b.offer) (λ y. by_key y.offer h.offer)
                    (λ a b less e. through_key by_key total a.offer b.offer h.offer less e) x held (ap is_lt greater) up.0),
              ) refl
        ]
      ]
