-- Names in the order of their bytes.
use Rattle.std.proofs.Common.{◌≡◌, ℕ, ◌<◌, ◌≤◌, List, [], ◌∷◌, ◌++◌, length, refl, sym, ap, ◌∙◌, arith, subst}
use Rattle.std.proofs.lemmas.Map.Lookups.{exact_bytes}
use Rattle.std.specs.Cmp.{nat_cmp_is}
use Rattle.std.specs.Ordering.{nat_cmp, ordering_then}
use Rattle.std.specs.declared.cmp.Ordering.{Ordering}
use Rattle.std.specs.declared.cmp.Ordering.TheVariants.{Less, Equal}
use Rattle.ipx_wire.specs.Name.{name_order}

-- a byte is as large as itself
as_large : (x : ℕ) → nat_cmp x x ≡ Equal
as_large x = sym (nat_cmp_is x x Equal refl)

-- equal first bytes leave it to those behind
pub first_equal : (x : ℕ) (a b : List ℕ) → name_order (x ∷ a) (x ∷ b) ≡ name_order a b
first_equal x a b = ap (λ (o : Ordering). ordering_then o (name_order a b)) (as_large x)

itself : (a : List ℕ) → name_order a a ≡ Equal
itself [] = refl
itself (x ∷ a) = first_equal x a a ∙ itself a

-- names that are equal in the order are equal
pub equal_is : (a b : List ℕ) → name_order a b ≡ Equal → a ≡ b
equal_is a b e = exact_bytes a b e

pub is_equal : (a b : List ℕ) → a ≡ b → name_order a b ≡ Equal
is_equal a b e = subst (λ (x : List ℕ). name_order a x ≡ Equal) e (itself a)

-- a proper prefix is the smaller
pub prefix_less : (a b : List ℕ) → 1 ≤ length b → name_order a (a ++ b) ≡ Less
prefix_less [] [] some = absurd (omega (arith, some))
prefix_less [] (y ∷ b) some = refl
prefix_less (x ∷ a) b some = first_equal x a (a ++ b) ∙ prefix_less a b some

-- the first bytes that differ decide
pub first_less : (front a b : List ℕ) (x y : ℕ) → x < y → name_order (front ++ x ∷ a) (front ++ y ∷ b) ≡ Less
first_less [] a b x y less = ap (λ (o : Ordering). ordering_then o (name_order a b)) (sym (nat_cmp_is x y Less less))
first_less (z ∷ front) a b x y less = first_equal z (front ++ x ∷ a) (front ++ y ∷ b) ∙ first_less front a b x y less
