-- What is in queues, before they are served and after it.
use Rattle.std.proofs.Common.{◌≡◌, refl, ap₂, arith, ℕ, zero, suc, ◌+◌, ◌-◌, ◌*◌, ◌<◌, ◌≤◌, ◌⊎◌, inl, inr, List, [], ◌∷◌, length, replicate, set}
use Rattle.std.proofs.lemmas.List.{length-map}
use Rattle.ipx_fair.specs.Queues.{total, waits, waiting, lowered, beyond}
use Rattle.ipx_fair.specs.Hearing.{queue_of}

-- ---- one queue

pub waits_most : (q : ℕ) → waits q ≤ 1
waits_most zero = omega arith
waits_most (suc q) = omega arith

pub waits_is : (q : ℕ) → ((q ≡ 0) × (waits q ≡ 0)) ⊎ ((0 < q) × (waits q ≡ 1))
waits_is zero = inl (refl, refl)
waits_is (suc q) = inr (omega arith, refl)

pub waits_some : (q : ℕ) → 0 < q → waits q ≡ 1
waits_some q some = elim (waits_is q) [ inl none ↦ absurd (omega arith) | inr is ↦ is.1 ]

pub waits_none : (q : ℕ) → waits q ≡ 0 → q ≡ 0
waits_none q none = elim (waits_is q) [ inl is ↦ is.0 | inr some ↦ absurd (omega arith) ]

pub waits_least : (q : ℕ) → waits q ≤ q
waits_least zero = omega arith
waits_least (suc q) = omega arith

waits_lowered : (level q : ℕ) → waits (q - level) ≤ waits q
waits_lowered level q = elim (waits_is q) [
  | inl none ↦ let e : q - level ≡ 0 = omega arith in rw e (omega arith)
  | inr some ↦ omega (arith, waits_most (q - level))
]

pub one_most : (level q : ℕ) → q ≤ (q - level) + level * waits q
one_most level zero = omega arith
one_most level (suc q) = omega arith

one_least : (level q : ℕ) → (q - level) + level * waits (q - level) ≤ q
one_least level q = elim (waits_is (q - level)) [
  | inl none ↦ rw none.1 (omega arith)
  | inr some ↦ rw some.1 (omega (arith, some.0))
]

one_used : (level q : ℕ) → 0 < level → (q - level) + waits q ≤ q
one_used level zero some = omega arith
one_used level (suc q) some = omega arith

-- ---- all queues

pub waiting_most : (qs : List ℕ) → waiting qs ≤ length qs
waiting_most [] = omega arith
waiting_most (q ∷ qs) = omega (arith, waits_most q, waiting_most qs)

pub waiting_least : (qs : List ℕ) → waiting qs ≤ total qs
waiting_least [] = omega arith
waiting_least (q ∷ qs) = omega (arith, waits_least q, waiting_least qs)

pub none_waits : (qs : List ℕ) → waiting qs ≡ 0 → total qs ≡ 0
none_waits [] none = refl
none_waits (q ∷ qs) none =
    let first : waits q ≡ 0 = omega arith in
    let rest : waiting qs ≡ 0 = omega arith in
    omega (arith, waits_none q first, none_waits qs rest)

pub queue_of-le-total : (qs : List ℕ) (k : ℕ) → queue_of qs k ≤ total qs
queue_of-le-total [] k = omega arith
queue_of-le-total (q ∷ qs) zero = omega arith
queue_of-le-total (q ∷ qs) (suc k) = omega (arith, queue_of-le-total qs k)

pub all_empty : (qs : List ℕ) → total qs ≡ 0 → qs ≡ replicate (length qs) 0
all_empty [] none = refl
all_empty (q ∷ qs) none =
    let first : q ≡ 0 = omega arith in
    let rest : total qs ≡ 0 = omega arith in
    ap₂ (λ (x : ℕ) (xs : List ℕ). x ∷ xs) first (all_empty qs rest)

pub total-replicate : (n : ℕ) → total (replicate n 0) ≡ 0
total-replicate zero = refl
total-replicate (suc n) = omega (arith, total-replicate n)

pub waiting-replicate : (n : ℕ) → waiting (replicate n 0) ≡ 0
waiting-replicate zero = refl
waiting-replicate (suc n) = omega (arith, waiting-replicate n)

pub lowered-replicate : (level n : ℕ) → lowered level (replicate n 0) ≡ replicate n 0
lowered-replicate level zero = refl
lowered-replicate level (suc n) =
    let none : 0 - level ≡ 0 = omega arith in
    ap₂ (λ (x : ℕ) (xs : List ℕ). x ∷ xs) none (lowered-replicate level n)

-- ---- served alike

pub length-lowered : (level : ℕ) (qs : List ℕ) → length (lowered level qs) ≡ length qs
length-lowered level qs = length-map qs (λ (q : ℕ). q - level)

pub lowered_none : (qs : List ℕ) → lowered 0 qs ≡ qs
lowered_none [] = refl
lowered_none (q ∷ qs) =
    let same : q - 0 ≡ q = omega arith in
    ap₂ (λ (x : ℕ) (xs : List ℕ). x ∷ xs) same (lowered_none qs)

pub lowered_twice : (a b : ℕ) (qs : List ℕ) → lowered b (lowered a qs) ≡ lowered (a + b) qs
lowered_twice a b [] = refl
lowered_twice a b (q ∷ qs) =
    let same : (q - a) - b ≡ q - (a + b) = omega arith in
    ap₂ (λ (x : ℕ) (xs : List ℕ). x ∷ xs) same (lowered_twice a b qs)

pub queue_of-lowered : (level : ℕ) (qs : List ℕ) (k : ℕ) → queue_of (lowered level qs) k ≡ queue_of qs k - level
queue_of-lowered level [] k = omega arith
queue_of-lowered level (q ∷ qs) zero = refl
queue_of-lowered level (q ∷ qs) (suc k) = queue_of-lowered level qs k

pub served_most : (level : ℕ) (qs : List ℕ) → total qs ≤ total (lowered level qs) + level * waiting qs
served_most level [] = omega arith
served_most level (q ∷ qs) = omega (arith, one_most level q, served_most level qs)

pub served_least : (level : ℕ) (qs : List ℕ) → total (lowered level qs) + level * waiting (lowered level qs) ≤ total qs
served_least level [] = omega arith
served_least level (q ∷ qs) = omega (arith, one_least level q, served_least level qs)

pub some_served : (level : ℕ) (qs : List ℕ) → 0 < level → total (lowered level qs) + waiting qs ≤ total qs
some_served level [] some = omega arith
some_served level (q ∷ qs) some = omega (arith, one_used level q some, some_served level qs some)

pub total_fewer : (level : ℕ) (qs : List ℕ) → total (lowered level qs) ≤ total qs
total_fewer level [] = omega arith
total_fewer level (q ∷ qs) = omega (arith, total_fewer level qs)

pub waiting_fewer : (level : ℕ) (qs : List ℕ) → waiting (lowered level qs) ≤ waiting qs
waiting_fewer level [] = omega arith
waiting_fewer level (q ∷ qs) = omega (arith, waits_lowered level q, waiting_fewer level qs)

pub beyond_fewer : (part level : ℕ) (qs : List ℕ) → beyond part (lowered level qs) ≤ beyond part qs
beyond_fewer part level [] = omega arith
beyond_fewer part level (q ∷ qs) = omega (arith, beyond_fewer part level qs)

-- ---- one of them changes

pub total-set : (qs : List ℕ) (k y : ℕ) → k < length qs → total (set qs k y) + queue_of qs k ≡ total qs + y
total-set [] k y there = absurd (omega (arith, there))
total-set (q ∷ qs) zero y there = omega arith
total-set (q ∷ qs) (suc k) y there = omega (arith, total-set qs k y (omega (arith, there)))

pub waiting-set : (qs : List ℕ) (k y : ℕ) → k < length qs → waiting (set qs k y) + waits (queue_of qs k) ≡ waiting qs + waits y
waiting-set [] k y there = absurd (omega (arith, there))
waiting-set (q ∷ qs) zero y there = omega arith
waiting-set (q ∷ qs) (suc k) y there = omega (arith, waiting-set qs k y (omega (arith, there)))

pub beyond-set : (part : ℕ) (qs : List ℕ) (k y : ℕ) → k < length qs → beyond part (set qs k y) + (queue_of qs k - part) ≡ beyond part qs + (y - part)
beyond-set part [] k y there = absurd (omega (arith, there))
beyond-set part (q ∷ qs) zero y there = omega arith
beyond-set part (q ∷ qs) (suc k) y there = omega (arith, beyond-set part qs k y (omega (arith, there)))

pub some_wait : (qs : List ℕ) → 0 < total qs → 0 < waiting qs
some_wait [] some = absurd (omega (arith, some))
some_wait (q ∷ qs) some = elim (waits_is q) [
  | inl none ↦ omega (arith, some_wait qs (omega (arith, some, none.0)))
  | inr is ↦ omega (arith, is.1)
]
