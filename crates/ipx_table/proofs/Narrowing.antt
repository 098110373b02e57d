-- The search's loop: what is sought stands among the `size` places from `low` on, and this many asks suffice to find it.
use Rattle.std.proofs.Common.{◌≡◌, refl, sym, ◌∙◌, ℕ, ◌||◌, Bool, Ordering, ◌+◌, ◌-◌, ◌/◌, ◌^◌, ◌<◌, ◌≤◌, zero, suc, nat_lt, true, false, if◌then◌else◌, arith, Less, Equal, Greater, is_lt, is_eq}
use Rattle.std.proofs.lemmas.Bool.{or_right}
use Rattle.std.proofs.Math.Nat.{two-pow-succ}
use Rattle.ipx_table.specs.Answers.{Answers, places, answer_at}

-- of a number of asks, some are spare: enough for what is left
abbrev pub Spare : ℕ → ℕ → ℕ → Type 0
Spare digits size asks = (spare : ℕ) × (spare + asks ≡ digits) × (size < 2 ^ spare)

-- what is sought stands among the `size` places from `low` on, or was asked already
pub record Narrowed (answers : Answers) (low size : ℕ) (held : Bool) (asks : ℕ) : Type 0 where
  pub from : low ≤ answers.below
  pub upto : answers.below + (if held then 0 else if answers.held then 1 else 0) ≤ low + size
  pub asked : held ≡ true → answers.held ≡ true
  pub within : low + size ≤ places answers
  pub spare : (digits : ℕ) → places answers < 2 ^ digits → Spare digits size asks

-- ---- what an answer means

pub when_less : (a : Answers) (k : ℕ) → answer_at a k ≡ Less → k < a.below
when_less a k e = grind arith

pub when_equal : (a : Answers) (k : ℕ) → answer_at a k ≡ Equal → (a.held ≡ true) × (k ≡ a.below)
when_equal a k e = grind arith

pub when_greater : (a : Answers) (k : ℕ) → answer_at a k ≡ Greater → a.below + (if a.held then 1 else 0) ≤ k
when_greater a k e = grind arith

-- ---- one ask

-- one ask fewer is spare, and half as much is left
spare_less : (digits size asks spare : ℕ) → spare + asks ≡ digits → size < 2 ^ spare → 0 < size → Spare digits (size / 2) (asks + 1)
spare_less digits size asks zero sum near some = absurd (omega (arith, near, some))
spare_less digits size asks (suc n) sum near some = (n, omega (arith, sum), omega (arith, near, some, two-pow-succ n))

pub narrow_start : (a : Answers) → Narrowed a 0 (places a) false 0
narrow_start a = grind arith

or_false : (b : Bool) → (b || false) ≡ b
or_false b = grind arith

-- a bound that holds of both counts that may be left out
less_counted : (a : Answers) (held : Bool) (n : ℕ) → a.below + (if a.held then 1 else 0) ≤ n → a.below + (if held then 0 else if a.held then 1 else 0) ≤ n
less_counted a held n all = grind arith

module _ (a : Answers) (low size : ℕ) (held : Bool) (asks : ℕ) (n : Narrowed a low size held asks) (some : 0 < size) where
  less_left : (answer : Ordering) → answer_at a (low + (size - 1) / 2) ≡ answer
      → Narrowed a (if is_lt answer then low + (size - 1) / 2 + 1 else low) (size / 2) (held || is_eq answer) (asks + 1)
  less_left Less e = record {
    from = let below = when_less a (low + (size - 1) / 2) e in omega (arith, below);
    upto = rw (or_false held) (omega (arith, n.upto, some));
    asked = λ found. n.asked (sym (or_false held) ∙ found);
    within = omega (arith, n.within, some);
    spare = λ digits fits. let s = n.spare digits fits in spare_less digits size asks s.0 s.1 s.2 some;
  }
  less_left Equal e = record {
    from = n.from;
    upto = let here = (when_equal a (low + (size - 1) / 2) e).1 in rw (or_right held true refl) (omega (arith, here));
    asked = λ found. (when_equal a (low + (size - 1) / 2) e).0;
    within = omega (arith, n.within, some);
    spare = λ digits fits. let s = n.spare digits fits in spare_less digits size asks s.0 s.1 s.2 some;
  }
  less_left Greater e = record {
    from = n.from;
    upto = let above = when_greater a (low + (size - 1) / 2) e in rw (or_false held) (less_counted a held (low + size / 2) (omega (arith, above)));
    asked = λ found. n.asked (sym (or_false held) ∙ found);
    within = omega (arith, n.within, some);
    spare = λ digits fits. let s = n.spare digits fits in spare_less digits size asks s.0 s.1 s.2 some;
  }

  -- an ask narrows it, whatever its answer
  pub narrow : (answer : Ordering) → answer ≡ answer_at a (low + (size - 1) / 2)
      → Narrowed a (if is_lt answer then low + (size - 1) / 2 + 1 else low) (size / 2) (held || is_eq answer) (asks + 1)
  narrow answer e = less_left answer (sym e)

-- the place of the sought key is met where an ask answers that it is the one
pub met_now : (answer : Ordering) (place met len : ℕ) → place < len → nat_lt (if is_eq answer then place else met) len ≡ (nat_lt met len || is_eq answer)
met_now answer place met len within = grind arith

-- ---- the answer

pub found : (a : Answers) (low : ℕ) (held : Bool) (asks : ℕ) → Narrowed a low 0 held asks → (low ≡ a.below) × (held ≡ a.held)
found a low held asks n = grind arith

pub few_asks : (a : Answers) (low size : ℕ) (held : Bool) (asks : ℕ) → Narrowed a low size held asks → (digits : ℕ) → places a < 2 ^ digits → asks ≤ digits
few_asks a low size held asks n digits fits = let s = n.spare digits fits in omega (arith, s.1)
