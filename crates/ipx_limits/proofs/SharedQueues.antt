-- Which queue is given, and that it is nobody's as long as there is one that is nobody's.
use Rattle.std.proofs.Common.{◌≡◌, refl, sym, ap, subst, arith, ℕ, zero, suc, ◌+◌, ◌-◌, ◌*◌, ◌<◌, ◌≤◌, inl, inr, nat_lt, Bool, true, false, List, [], ◌∷◌, take, drop, get_or}
use Rattle.std.proofs.Math.Nat.{eq-or-lt_of_le}
use Rattle.std.proofs.lemmas.Bool.{ltb-false}
use Rattle.std.proofs.lemmas.List.{get_or-drop}
use Rattle.ipx_limits.specs.declared.queues.Queues.{Queues}
use Rattle.ipx_limits.specs.Queues.{users_of, behind, rank, IsFirst, Taken, total, speakers}

pub first_alone : (queues : Queues) (first : ℕ) → IsFirst queues first first first
first_alone queues first other low high =
    let same : other ≡ first = omega (arith, low, high) in
    omega (arith, ap (rank queues) same)

-- one more queue, which doesn't come before the first, or does
pub first_stays : (queues : Queues) (first last number : ℕ) → IsFirst queues first last number → rank queues number ≤ rank queues (last + 1)
    → IsFirst queues first (last + 1) number
first_stays queues first last number is less other low high =
    elim (eq-or-lt_of_le high) [
      | inl same ↦ omega (arith, less, ap (rank queues) same)
      | inr before ↦ is other low (omega (arith, before))
    ]

pub first_changes : (queues : Queues) (first last number : ℕ) → IsFirst queues first last number → rank queues (last + 1) ≤ rank queues number
    → IsFirst queues first (last + 1) (last + 1)
first_changes queues first last number is less other low high =
    elim (eq-or-lt_of_le high) [
      | inl same ↦ omega (arith, ap (rank queues) same)
      | inr before ↦ let least = is other low (omega (arith, before)) in omega (arith, less, least)
    ]

-- ---- as long as one of them is nobody's, it is nobody's

behind_few : (last number : ℕ) → number < 256 → behind last number ≤ 256
behind_few last number small = by (nat_lt last number) refl
  where
    by : (b : Bool) → nat_lt last number ≡ b → behind last number ≤ 256
    by true is = rw is (omega (arith, small))
    by false is = rw is (let not_less : number ≤ last = ltb-false last number is in omega (arith, not_less))

-- what comes first has no more users than any other
fewer : (queues : Queues) (first last number other : ℕ) → IsFirst queues first last number → first ≤ other → other ≤ last → other < 256
    → users_of queues number ≤ users_of queues other
fewer queues first last number other is low high small =
    let least = is other low high in
    omega (arith, least, behind_few queues.last other small)

-- where each of some has as many, all have that many times as many
all_have : (n count : ℕ) (users : List ℕ) → ((k : ℕ) → k < count → n ≤ get_or users k 0) → n * count ≤ total (take count users)
all_have n zero users each = omega arith
all_have n (suc count) [] each =
    let none : n ≡ 0 = omega (arith, each 0 (omega arith)) in
    rw none (omega arith)
all_have n (suc count) (u ∷ users) each =
    let here : n ≤ u = each 0 (omega arith) in
    let rest : n * count ≤ total (take count users) = all_have n count users (λ k small. each (suc k) (omega (arith, small))) in
    omega (arith, here, rest)

none : (n count all : ℕ) → n * count ≤ all → all < count → n ≡ 0
none zero count all most few = refl
none (suc n) count all most few = absurd (omega (arith, most, few))

pub own : (first last number : ℕ) (old new : Queues) → Taken first last number old new → last < 256
    → speakers old first last < last + 1 - first → users_of old number ≡ 0
own first last number old new taken small few =
    let n = users_of old number in
    let each : (k : ℕ) → k < last + 1 - first → n ≤ get_or (drop first old.users) k 0 =
    λ k less. subst (λ (u : ℕ). n ≤ u) (sym (get_or-drop first old.users k 0))
    (fewer old first last number (first + k) taken.fewest (omega arith) (omega (arith, less)) (omega (arith, less, small))) in
    let all = all_have n (last + 1 - first) (drop first old.users) each in
    none n (last + 1 - first) (speakers old first last) all few
