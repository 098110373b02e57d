-- A number's digits, two at a time.
use Rattle.std.proofs.Common.{◌≡◌, ℕ, ◌<◌, ◌≤◌, ◌/◌, ◌%◌, ◌^◌, List, ◌++◌, length, decimal, ap, ◌∙◌, arith, append_assoc}
use Rattle.std.proofs.lemmas.Fmt.{decimal_step, decimal_digit}
use Rattle.ipx_cmd.specs.inside.Drafted.{two_digits}
use Rattle.ipx_wire.specs.Rip.{operation_word}
use Rattle.ipx_wire.specs.declared.rip.Operation.{Operation}

-- the digits of the hundreds, then tens and ones
pub decimal_pair : (n : ℕ) → 100 ≤ n → n < 2 ^ 64 → decimal n ≡ decimal (n / 100) ++ two_digits (n % 100)
decimal_pair n much small = grind (arith, decimal_step, append_assoc)

-- the same of the hundreds
pub decimal_hundreds : (n : ℕ) → 10000 ≤ n → n < 2 ^ 64 → decimal (n / 100) ≡ decimal (n / 10000) ++ two_digits (n / 100 % 100)
decimal_hundreds n much small = grind (arith, decimal_pair)

-- tens and ones of a number below a hundred
pub decimal_two : (n : ℕ) → 10 ≤ n → n < 100 → decimal n ≡ two_digits n
decimal_two n much small = grind (arith, decimal_step, decimal_digit)

-- the word of an operation
pub operation_short : (o : Operation) → length (operation_word o) ≤ 8
operation_short o = grind arith

-- a text that was put in two parts
pub after : (start front back whole first last : List ℕ) → first ≡ start ++ front → last ≡ first ++ back → whole ≡ front ++ back → last ≡ start ++ whole
after start front back whole first last one two is = grind (arith, append_assoc)

-- a text that was put behind another
pub then : (a x y : List ℕ) {b c : List ℕ} → b ≡ a ++ x → c ≡ b ++ y → c ≡ a ++ (x ++ y)
then a x y {b} {c} one two = two ∙ ap (λ (t : List ℕ). t ++ y) one ∙ append_assoc a x y
