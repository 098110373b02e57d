-- The numbers of the ports, and the port of each.
use Rattle.std.proofs.lemmas.Grind.{common_steps}
use Rattle.std.proofs.Common.{◌≡◌, ℕ, zero, suc, ◌<◌, ◌==◌, true, length, List, [], ◌∷◌, arith, inl, inr, true≢false, sym}
use Rattle.std.specs.List.{AllByRecursion}
use Rattle.std.proofs.lemmas.Bool.{cases_Bool, eq-eqb, eqb-true, or_left, or_right}
use Rattle.ipx_router.specs.History.{History, ports_up}
use Rattle.ipx_router.specs.Port.{Port, port_at, numbers, is_up}
use Rattle.ipx_router.proofs.lists.EachElement.{all_then, all-filter}
use Rattle.ipx_router.proofs.tables.HeldWasOffered.{all-append}

-- what holds of all ports holds of the one at a number
pub port-all : (P : Port → Type 0) (ports : List Port) (number : ℕ) → AllByRecursion P ports → number < length ports → P (port_at ports number)
port-all P ports number all within = grind (arith, common_steps)

-- what holds of each number below n holds of all of them
numbers_pass : (P : ℕ → Type 0) (n : ℕ) → ((j : ℕ) → j < n → P j) → AllByRecursion P (numbers n)
numbers_pass P zero each = tt
numbers_pass P (suc n) each =
    all-append P (numbers n) (n ∷ []) (numbers_pass P n (λ j within. each j (omega (arith, within)))) (each n (omega arith), tt)

pub numbers_below : (n : ℕ) → AllByRecursion (λ j. j < n) (numbers n)
numbers_below n = numbers_pass (λ j. j < n) n (λ j below. below)

-- each number of a port that is up is a port's
pub ports_up-within : (ports : List Port) (history : History) → AllByRecursion (λ j. j < length ports) (ports_up ports history)
ports_up-within ports history = all-filter (λ j. j < length ports) _ (numbers (length ports)) (numbers_below (length ports))

-- each number of a list is one of them
pub members : (up : List ℕ) → AllByRecursion (λ j. is_up up j ≡ true) up
members [] = tt
members (x ∷ up) = grind (arith, members up, or_left, eq-eqb, all_then, or_right)

-- what holds of all numbers holds of one of them
pub one_up : (P : ℕ → Type 0) (up : List ℕ) (number : ℕ) → AllByRecursion P up → is_up up number ≡ true → P number
one_up P [] number all is = absurd (true≢false (sym is))
one_up P (x ∷ up) number all is = elim (cases_Bool (x == number)) [
  | inl same ↦ rw (sym (eqb-true x number same)) all.0
  | inr other ↦ one_up P up number all.1 (rw other at is)
]
