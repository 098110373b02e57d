-- The first bits of an address, and those behind them, as numbers.
use Rattle.std.proofs.Common.{◌≡◌, ◌↔◌, List, nat_eq, ◌∙◌, refl, sym, ap, arith, ℕ, zero, suc, ◌+◌, ◌-◌, ◌*◌, ◌/◌, ◌%◌, ◌^◌, ◌<◌, ◌≤◌, inl, inr, min, true}
use Rattle.std.proofs.Math.Nat.{div-eq_of_lt, div-one}
use Rattle.std.proofs.lemmas.Bool.{cases_eq, eqb-true, eq-eqb}
use Rattle.std.proofs.lemmas.Nat.{shr_split, shr-shr, mod_below, mod-pow-add, pow_pos, div-add-mod', div-mul-add}
use Rattle.ipx_cable.specs.Ranges.{number, bit, Begins, IsFirst, behind, front}

-- ---- the first

abbrev pub first : ℕ → ℕ → ℕ
first a n = a / 2 ^ (32 - n)

-- one bit more
one_more : (a n : ℕ) → n < 32 → first a (n + 1) ≡ first a n * 2 + bit a n
one_more a n within =
    let k = 31 - n in
    let here : 32 - (n + 1) ≡ k = omega (arith, within) in
    let there : 32 - n ≡ k + 1 = omega (arith, within) in
    let split : a / 2 ^ k / 2 ^ 1 * 2 ^ 1 + a / 2 ^ k % 2 ^ 1 ≡ a / 2 ^ k = shr_split (a / 2 ^ k) 1 in
    let joined : a / 2 ^ k / 2 ^ 1 ≡ a / 2 ^ (k + 1) = shr-shr a k 1 in
    ap (λ m. a / 2 ^ m) here ∙ sym split ∙ ap (λ q. q * 2 + a / 2 ^ k % 2) joined ∙ ap (λ m. a / 2 ^ m * 2 + a / 2 ^ k % 2) (sym there)

small : (a n : ℕ) → bit a n < 2
small a n = mod_below (a / 2 ^ (31 - n)) 2 (omega arith)

pub same_bits : (a b n : ℕ) → n ≤ 32 → first a n ≡ first b n → (i : ℕ) → i < n → bit a i ≡ bit b i
same_bits a b zero most same i within = absurd (omega (arith, within))
same_bits a b (suc n) most same i within =
    let next : n + 1 ≡ suc n = omega arith in
    let both : first a n * 2 + bit a n ≡ first b n * 2 + bit b n =
    sym (one_more a n (omega (arith, most))) ∙ ap (first a) next ∙ same ∙ ap (first b) (sym next) ∙ one_more b n (omega (arith, most)) in
    elim (cases_eq i n) [
      | inl last ↦ rw last (omega (arith, both, small a n, small b n))
      | inr before ↦ same_bits a b n (omega (arith, most)) (omega (arith, both, small a n, small b n)) i (omega (arith, before, within))
    ]

pub same_first : (a b n : ℕ) → n ≤ 32 → a < 2 ^ 32 → b < 2 ^ 32 → ((i : ℕ) → i < n → bit a i ≡ bit b i) → first a n ≡ first b n
same_first a b zero most small_a small_b same = div-eq_of_lt small_a ∙ sym (div-eq_of_lt small_b)
same_first a b (suc n) most small_a small_b same =
    let next : n + 1 ≡ suc n = omega arith in
    let before = same_first a b n (omega (arith, most)) small_a small_b (λ i within. same i (omega (arith, within))) in
    let here = same n (omega arith) in
    ap (first a) (sym next) ∙ one_more a n (omega (arith, most)) ∙ ap (λ x. x * 2 + bit a n) before ∙ ap (λ x. first b n * 2 + x) here
    ∙ sym (one_more b n (omega (arith, most))) ∙ ap (first b) next

pub front_is : (a bits : ℕ) → front a bits ≡ first a (min bits 32)
front_is a bits = refl

-- ---- those behind

-- bit j from the end
abbrev pub low : ℕ → ℕ → ℕ
low a j = a / 2 ^ j % 2

low_more : (a k : ℕ) → a % 2 ^ (k + 1) ≡ low a k * 2 ^ k + a % 2 ^ k
low_more a k = ap (λ n. a % 2 ^ n) (omega arith) ∙ mod-pow-add a 1 k

pub none_behind : (a k : ℕ) → a % 2 ^ k ≡ 0 → (j : ℕ) → j < k → low a j ≡ 0
none_behind a zero none j within = absurd (omega (arith, within))
none_behind a (suc k) none j within =
    let next : k + 1 ≡ suc k = omega arith in
    let sum : low a k * 2 ^ k + a % 2 ^ k ≡ 0 = sym (low_more a k) ∙ ap (λ n. a % 2 ^ n) next ∙ none in
    let rest : a % 2 ^ k ≡ 0 = omega (arith, sum) in
    elim (cases_eq j k) [
      | inl last ↦ rw last (no_bit (low a k) (2 ^ k) (mod_below (a / 2 ^ k) 2 (omega arith)) (pow_pos k) (omega (arith, sum)))
      | inr before ↦ none_behind a k rest j (omega (arith, before, within))
    ]
  where
    no_bit : (b p : ℕ) → b < 2 → 0 < p → b * p ≡ 0 → b ≡ 0
    no_bit zero p few some is = refl
    no_bit (suc b) p few some is =
        let more : p ≤ suc b * p = omega arith in
        absurd (omega (arith, is, some, more))

pub nothing_behind : (a k : ℕ) → ((j : ℕ) → j < k → low a j ≡ 0) → a % 2 ^ k ≡ 0
nothing_behind a zero none = omega (arith, mod_below a 1 (omega arith))
nothing_behind a (suc k) none =
    let next : k + 1 ≡ suc k = omega arith in
    let rest = nothing_behind a k (λ j within. none j (omega (arith, within))) in
    let here = none k (omega arith) in
    let none_here : low a k * 2 ^ k + a % 2 ^ k ≡ 0 = rw here (omega (arith, rest)) in
    ap (λ n. a % 2 ^ n) (sym next) ∙ low_more a k ∙ none_here

-- ---- of addresses

pub begins : (x y bits : ℕ) (a b : List ℕ) → x ≡ number a → y ≡ number b → x < 2 ^ 32 → y < 2 ^ 32
    → (nat_eq (front x bits) (front y bits) ≡ true) ↔ Begins bits a b
begins x y bits a b x_is y_is small_x small_y =
    let n = min bits 32 in (
      (λ same i within below. ap (λ z. bit z i) (sym x_is) ∙ same_bits x y n (omega arith) (eqb-true _ _ same) i (omega (arith, within, below)) ∙ ap (λ z. bit z i) y_is),
      (λ begin. eq-eqb _ _ (same_first x y n (omega arith) small_x small_y (λ i within.
          ap (λ z. bit z i) x_is ∙ begin i (omega (arith, within)) (omega (arith, within)) ∙ ap (λ z. bit z i) (sym y_is)))),
    )

pub first_of_range : (x bits : ℕ) (a : List ℕ) → x ≡ number a → (nat_eq (x % behind bits) 0 ≡ true) ↔ IsFirst bits a
first_of_range x bits a x_is =
    let k = 32 - min bits 32 in (
      (λ none i behind_it below.
          let at : 31 - i < k = omega (arith, behind_it, below) in
          ap (λ z. bit z i) (sym x_is) ∙ none_behind x k (eqb-true _ _ none) (31 - i) at),
      (λ clear. eq-eqb _ _ (nothing_behind x k (λ j within.
          let there : 31 - (31 - j) ≡ j = omega (arith, within) in
          ap (λ m. low x m) (sym there) ∙ ap (λ z. bit z (31 - j)) x_is ∙ clear (31 - j) (omega (arith, within)) (omega arith)))),
    )

-- ---- ranges without gaps

-- what has the same front as a number with nothing behind it lies behind that, and before the next
within : (x y m : ℕ) → 0 < m → x % m ≡ 0 → x / m ≡ y / m → (x ≤ y) × (y < x + m)
within x y m some none same =
    let first = div-add-mod' x m in
    let second = div-add-mod' y m in
    let joined : x / m * m ≡ y / m * m = ap (λ q. q * m) same in
    let small = mod_below y m some in
    (omega (arith, first, second, joined, none), omega (arith, first, second, joined, none, small))

front_within : (x y m : ℕ) → 0 < m → x % m ≡ 0 → x ≤ y → y < x + m → y / m ≡ x / m
front_within x y m some none low high =
    let first = div-add-mod' x m in
    let sum : x / m * m + (y - x) ≡ y = omega (arith, first, none, low) in
    ap (λ n. n / m) (sym sum) ∙ div-mul-add (x / m) m (y - x) (omega (arith, high, low))

pub without_gaps : (bits : ℕ) (a b : List ℕ) → number a < 2 ^ 32 → number b < 2 ^ 32 → IsFirst bits a
    → Begins bits a b ↔ ((number a ≤ number b) × (number b < number a + behind bits))
without_gaps bits a b small_a small_b clear =
    let m = behind bits in
    let some : 0 < m = pow_pos (32 - min bits 32) in
    let none : number a % m ≡ 0 = eqb-true _ _ ((first_of_range (number a) bits a refl).1 clear) in
    let fronts = begins (number a) (number b) bits a b refl refl small_a small_b in (
      (λ begin. within (number a) (number b) m some none (eqb-true _ _ (fronts.1 begin))),
      (λ lies. fronts.0 (eq-eqb _ _ (sym (front_within (number a) (number b) m some none lies.0 lies.1)))),
    )

pub only_one : (a b : List ℕ) → number a < 2 ^ 32 → number b < 2 ^ 32 → Begins 32 a b → number a ≡ number b
only_one a b small_a small_b begin =
    let fronts : number a / 1 ≡ number b / 1 = eqb-true _ _ ((begins (number a) (number b) 32 a b refl refl small_a small_b).1 begin) in
    sym (div-one (number a)) ∙ fronts ∙ div-one (number b)
