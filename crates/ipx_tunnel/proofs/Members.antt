-- Places in a list of places.
use Rattle.std.proofs.Common.{◌≡◌, ◌∙◌, refl, sym, ap, arith, ℕ, suc, ◌+◌, ◌≤◌, Bool, true, false, ◌&&◌, ◌||◌, not, if◌then◌else◌, inl, inr, List, [], ◌∷◌, ◌++◌, length, filter, replicate, length-append, rules}
use Rattle.std.specs.List.{AllByRecursion}
use Rattle.std.proofs.lemmas.Bool.{cases_Bool, false≢true}
use Rattle.std.proofs.lemmas.List.Elements.{filter-append, filter_agree}
use Rattle.std.proofs.Math.Bool.{and-false}
use Rattle.ipx_wire.specs.declared.node.Node.{Node}
use Rattle.ipx_tunnel.specs.Places.{same_node, same_address, is_among, of_address}
use Rattle.ipx_tunnel.specs.Laws.{copies}
use Rattle.ipx_tunnel.proofs.Nodes.{same_is}

-- ---- counting what passes a test

pub count-append : {X : Type 0} (p : X → Bool) (xs ys : List X) → length (filter p (xs ++ ys)) ≡ length (filter p xs) + length (filter p ys)
count-append p xs ys = ap length (filter-append p xs ys) ∙ length-append (filter p xs) (filter p ys)

pub count-filter : {X : Type 0} (p q : X → Bool) (xs : List X) → length (filter p (filter q xs)) ≤ length (filter p xs)
count-filter p q [] = omega arith
count-filter p q (x ∷ xs) = grind (arith, count-filter p q xs)

pub count_few : {X : Type 0} (p : X → Bool) (xs : List X) → length (filter p xs) ≤ length xs
count_few p [] = omega arith
count_few p (x ∷ xs) = grind (arith, count_few p xs)

-- ---- one place

none_of : (b : Bool) → ◌≡◌ {A = ℕ} 0 (if b then 0 else 0)
none_of b = grind arith

-- what is asked of a place has one answer for all nodes that are the same
copies-filter : (f : Node → Bool) (place : Node) (xs : List Node) → copies place (filter f xs) ≡ (if f place then copies place xs else 0)
copies-filter f place [] = none_of (f place)
copies-filter f place (x ∷ xs) =
    let rest = copies-filter f place xs in
    elim (cases_Bool (same_node x place)) [
      | inl same ↦ elim (cases_Bool (f x)) [
        | inl fx ↦
            let fp : f place ≡ true = sym (ap f (same_is x place same)) ∙ fx in
            rw (fx, fp, same) (ap suc (rw fp at rest))
        | inr fx ↦
            let fp : f place ≡ false = sym (ap f (same_is x place same)) ∙ fx in
            rw (fx, fp) (rw fp at rest)
      ]
      | inr same ↦ elim (cases_Bool (f x)) [ inl fx ↦ rw (fx, same) rest | inr fx ↦ rw (fx, same) rest ]
    ]

pub no_copies : (place : Node) (xs : List Node) → is_among place xs ≡ false → copies place xs ≡ 0
no_copies place [] none = refl
no_copies place (x ∷ xs) none =
    elim (cases_Bool (same_node x place)) [
      | inl same ↦ absurd (false≢true (sym none ∙ ap (λ b. b || is_among place xs) same))
      | inr same ↦ rw same (no_copies place xs (sym (ap (λ b. b || is_among place xs) same) ∙ none))
    ]

pub some_copies : (place : Node) (xs : List Node) → is_among place xs ≡ true → 1 ≤ copies place xs
some_copies place [] some = absurd (false≢true some)
some_copies place (x ∷ xs) some =
    elim (cases_Bool (same_node x place)) [
      | inl same ↦ rw same (omega arith)
      | inr same ↦ rw same (some_copies place xs (sym (ap (λ b. b || is_among place xs) same) ∙ some))
    ]

-- a place that stands at most once stands once where it stands
pub copies_one : (place : Node) (xs : List Node) → copies place xs ≤ 1 → copies place xs ≡ (if is_among place xs then 1 else 0)
copies_one place xs few = grind (arith, some_copies, no_copies)

passed_by : (passes stands : Bool) (count : ℕ) → count ≡ (if stands then 1 else 0) → (if passes then count else 0) ≡ (if stands && passes then 1 else 0)
passed_by passes stands count is = grind arith

pub copies_passed : (f : Node → Bool) (place : Node) (xs : List Node) → copies place xs ≤ 1
    → copies place (filter f xs) ≡ (if is_among place xs && f place then 1 else 0)
copies_passed f place xs few = copies-filter f place xs ∙ passed_by (f place) (is_among place xs) (copies place xs) (copies_one place xs few)

pub among-filter : (f : Node → Bool) (place : Node) (xs : List Node) → is_among place (filter f xs) ≡ (is_among place xs && f place)
among-filter f place [] = refl
among-filter f place (x ∷ xs) =
    let rest = among-filter f place xs in
    elim (cases_Bool (same_node x place)) [
      | inl same ↦ elim (cases_Bool (f x)) [
        | inl fx ↦
            let fp : f place ≡ true = sym (ap f (same_is x place same)) ∙ fx in
            rw (fx, same, fp) refl
        | inr fx ↦
            let fp : f place ≡ false = sym (ap f (same_is x place same)) ∙ fx in
            rw (fx, same, fp) (rest ∙ ap (λ b. is_among place xs && b) fp ∙ and-false (is_among place xs))
      ]
      | inr same ↦ elim (cases_Bool (f x)) [ inl fx ↦ rw (fx, same) rest | inr fx ↦ rw (fx, same) rest ]
    ]

-- what holds of each holds of one that stands there
pub each_among : (f : Node → Bool) (place : Node) (xs : List Node) → AllByRecursion (λ x. f x ≡ true) xs → is_among place xs ≡ true → f place ≡ true
each_among f place [] all some = absurd (false≢true some)
each_among f place (x ∷ xs) all some =
    elim (cases_Bool (same_node x place)) [
      | inl same ↦ sym (ap f (same_is x place same)) ∙ all.0
      | inr same ↦ each_among f place xs all.1 (sym (ap (λ b. b || is_among place xs) same) ∙ some)
    ]

-- all but one that stands there are fewer
pub others_fewer : (place : Node) (xs : List Node) → is_among place xs ≡ true → length (filter (λ p. not (same_node p place)) xs) + 1 ≤ length xs
others_fewer place [] some = absurd (false≢true some)
others_fewer place (x ∷ xs) some =
    elim (cases_Bool (same_node x place)) [
      | inl same ↦ rw same (omega (arith, count_few (λ p. not (same_node p place)) xs))
      | inr same ↦ rw same (omega (arith, others_fewer place xs (sym (ap (λ b. b || is_among place xs) same) ∙ some)))
    ]

-- all that are the same as a place are this place, as often as it stands there
pub alone : (place : Node) (xs : List Node) → filter (λ p. same_node p place) xs ≡ replicate (copies place xs) place
alone place [] = refl
alone place (x ∷ xs) = search (rules, alone place xs, same_is)

-- ---- addresses

-- who has the same address is counted alike
pub of_same_address : (a b : Node) (xs : List Node) → same_address a b ≡ true → of_address b xs ≡ of_address a xs
of_same_address a b xs same = search (rules, filter_agree)
