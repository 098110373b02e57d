use Rattle.std.proofs.lemmas.Grind.{common_steps}
use Rattle.std.proofs.Common.{◌≡◌, ◌≢◌, ℕ, zero, suc, ◌+◌, ◌-◌, ◌==◌, ◌≤◌, ◌<◌, List, [], ◌∷◌, ◌++◌, length, take, drop, replicate, get_or, refl, sym, ap, ◌∙◌, arith, subst, inl, inr, ◌⊎◌, Option, None, Some, IfSome, IfNone}
use Rattle.std.proofs.lemmas.List.{take_at, length-take}
use Rattle.std.proofs.lemmas.List.Folds.{length-prefix_len}
use Rattle.std.proofs.lemmas.List.Sums.{prefix_len-le-length}
use Rattle.std.proofs.lemmas.Bool.{cases_eq, cases_lt, lt-ltb, le-ltb}
use Rattle.std.specs.List.{position, position_or_len, AllByRecursion}
use Rattle.std.specs.Option.{unwrap_or}
use Rattle.ipx_wire.specs.Name.{IsServiceName, IsName, IsNoName, IsKeptName, before_zero, name_of, name_field}

-- how many bytes stand before the first zero
abbrev pub zero_at : List ℕ → ℕ
zero_at field = position_or_len (λ byte. byte == 0) field

-- a byte that is not zero stands before the first zero
further : (byte : ℕ) (field : List ℕ) → 0 < byte → zero_at (byte ∷ field) ≡ suc (zero_at field)
further byte field some = grind arith

before_further : (byte : ℕ) (field : List ℕ) → 0 < byte → before_zero (byte ∷ field) ≡ byte ∷ before_zero field
before_further byte field some = ap (λ (k : ℕ). take k (byte ∷ field)) (further byte field some)

-- the bytes before the first zero are not zero
full_before : (field : List ℕ) → AllByRecursion (λ byte. 0 < byte) (before_zero field)
full_before [] = tt
full_before (zero ∷ field) = tt
full_before (suc byte ∷ field) = grind (arith, full_before field, before_further)

-- where there is no zero, no byte is zero
full_without : (field : List ℕ) → zero_at field ≡ length field → AllByRecursion (λ byte. 0 < byte) field
full_without [] e = tt
full_without (zero ∷ field) e = absurd (omega (arith, e))
full_without (suc byte ∷ field) e =
    let some : 0 < suc byte = omega arith in
    (some, full_without field (let same : zero_at field ≡ length field = omega (arith, e, further (suc byte) field some) in same))

-- bytes that are not zero hold no zero
without_full : (field : List ℕ) → AllByRecursion (λ byte. 0 < byte) field → zero_at field ≡ length field
without_full [] full = refl
without_full (byte ∷ field) full = further byte field full.0 ∙ ap suc (without_full field full.1)

-- a field is what stands before its first zero, the zero, and the rest
split_at_zero : (field : List ℕ) → zero_at field < length field → field ≡ before_zero field ++ 0 ∷ drop (zero_at field + 1) field
split_at_zero [] below = absurd (omega (arith, below))
split_at_zero (zero ∷ field) below = refl
split_at_zero (suc byte ∷ field) below =
    let some : 0 < suc byte = omega arith in
    let next = further (suc byte) field some in
    let later : zero_at field < length field = omega (arith, below, next) in
    let place : zero_at (suc byte ∷ field) + 1 ≡ suc (zero_at field + 1) = omega (arith, next) in
    ap (λ (bytes : List ℕ). suc byte ∷ bytes) (split_at_zero field later)
    ∙ ap (λ (bytes : List ℕ). bytes ++ 0 ∷ drop (zero_at field + 1) field) (sym (before_further (suc byte) field some))
    ∙ ap (λ (k : ℕ). before_zero (suc byte ∷ field) ++ 0 ∷ drop k (suc byte ∷ field)) (sym place)

-- behind bytes that are not zero, a zero is the first
zero_behind : (name rest : List ℕ) → AllByRecursion (λ byte. 0 < byte) name → zero_at (name ++ 0 ∷ rest) ≡ length name
zero_behind [] rest full = refl
zero_behind (byte ∷ name) rest full = further byte (name ++ 0 ∷ rest) full.0 ∙ ap suc (zero_behind name rest full.1)

-- a field that begins with a zero, and one that does not
zero_first : (field : List ℕ) → zero_at field ≡ 0 → get_or field 0 0 ≡ 0
zero_first field e = grind (arith, common_steps, further)

first_zero : (field : List ℕ) → get_or field 0 0 ≡ 0 → zero_at field ≡ 0
first_zero field e = grind (arith, common_steps)

-- the place of the first zero, or the length
pub position_or_length : (field : List ℕ) → unwrap_or (position (λ byte. byte == 0) field) (length field) ≡ zero_at field
position_or_length field = grind (arith, prefix_len-le-length, cases_lt, lt-ltb, le-ltb)

pub length-before_zero : (field : List ℕ) → length (before_zero field) ≡ zero_at field
length-before_zero field = length-prefix_len _ field

-- what passes both comparisons has a name
pub name_of-inside : (field : List ℕ) → 0 < zero_at field → zero_at field < 48 → name_of field ≡ Some (before_zero field)
unfolding name_of
name_of-inside field some below = grind (arith, length-before_zero, lt-ltb)

-- what begins with a zero has none
pub name_of-empty : (field : List ℕ) → zero_at field ≡ 0 → name_of field ≡ None
unfolding name_of
name_of-empty field e = grind arith

-- what has no zero has none
pub name_of-whole : (field : List ℕ) → zero_at field ≡ 48 → name_of field ≡ None
unfolding name_of
name_of-whole field e = grind (arith, length-before_zero, lt-ltb, le-ltb)

-- the bytes before the first zero are the name
pub is_name : (field : List ℕ) → length field ≡ 48 → 0 < zero_at field → zero_at field < 48 → IsName field (before_zero field)
is_name field size some below =
    let long = length-before_zero field in
    record {
      rest = drop (zero_at field + 1) field;
      layout = split_at_zero field (omega (arith, size, below));
      size = size;
      named = record {
        some = omega (arith, long, some);
        most = omega (arith, long, below);
        full = full_before field;
      };
    }

-- where the zero stands that ends a name
ended : (field name : List ℕ) → IsName field name → zero_at field ≡ length name
ended field name is = ap zero_at is.layout ∙ zero_behind name is.rest is.named.full

-- a field's name is what stands before its first zero
pub before_is : (field name : List ℕ) → IsName field name → before_zero field ≡ name
before_is field name is = grind (arith, ended, take_at)

-- the function answers each name by the relation
pub name_only : (field name : List ℕ) → IsName field name → name_of field ≡ Some name
name_only field name is = grind (arith, ended, name_of-inside, before_is)

-- a field has at most one name
pub one_name : (field a b : List ℕ) → IsName field a → IsName field b → a ≡ b
one_name field a b is_a is_b = sym (before_is field a is_a) ∙ before_is field b is_b

-- the three ways a field is read
pub ways : (field : List ℕ) → length field ≡ 48 → (zero_at field ≡ 0) ⊎ ((zero_at field ≡ 48) ⊎ ((0 < zero_at field) × (zero_at field < 48)))
ways field size = grind (arith, prefix_len-le-length, cases_eq, cases_lt)

-- a name that is answered is one by the relation
pub name_found : (field : List ℕ) → length field ≡ 48 → IfSome (name_of field) (IsName field)
name_found field size = grind (arith, ways, name_of-empty, name_of-whole, name_of-inside, is_name)

-- a field without a name begins with a zero or has none
pub no_name : (field : List ℕ) → length field ≡ 48 → (zero_at field ≡ 0) ⊎ (zero_at field ≡ 48) → IsNoName field
no_name field size given = grind (arith, zero_first, full_without)

-- and the other way round
pub name_refused : (field : List ℕ) → length field ≡ 48 → IsNoName field → name_of field ≡ None
name_refused field size given = grind (arith, name_of-empty, first_zero, name_of-whole, without_full)

-- the name at the front of a field whose rest was cleared
pub cleared_front : (field : List ℕ) (count : ℕ) → length field ≡ 48 → count ≤ 48 → take count (take count field ++ replicate (length field - count) 0) ≡ take count field
cleared_front field count size within = grind (arith, take_at, length-take)

-- what is kept of a name that was read
pub cleared : (field : List ℕ) (count : ℕ) → length field ≡ 48 → IsServiceName (take count field) → count ≤ 48
    → IsKeptName (take count field ++ replicate (length field - count) 0) (take count (take count field ++ replicate (length field - count) 0)) count
unfolding name_field
cleared field count size named within = grind (arith, length-take, cleared_front)

-- where the first zero of a field stands that has a name
pub inside : (field : List ℕ) (count : ℕ) → length field ≡ 48 → count ≡ zero_at field → count ≢ 0 → count ≢ 48 → (0 < zero_at field) × (zero_at field < 48)
inside field count size e some not_all = omega (arith, prefix_len-le-length)

-- a field that begins with a zero, or has none, has no name
pub nameless : (field name : List ℕ) → (zero_at field ≡ 0) ⊎ (zero_at field ≡ 48) → IsName field name → ⊥
nameless field name given is = omega (arith, ended)

-- what is kept of the name that stands for none
pub default_kept : IsKeptName (63 ∷ replicate 47 0) (63 ∷ []) 1
unfolding name_field
default_kept = grind arith

-- where the first zero stands of a field without a name
no_name_at : (field : List ℕ) → length field ≡ 48 → IsNoName field → (zero_at field ≡ 0) ⊎ (zero_at field ≡ 48)
no_name_at field size given = grind (arith, first_zero, without_full)

-- a field that has no name for one of the two reasons has none by the relation
pub no_name-none : (field : List ℕ) → length field ≡ 48 → IsNoName field → (name : List ℕ) → IsName field name → ⊥
no_name-none field size is name = nameless field name (no_name_at field size is)

-- and there is no other reason
pub none-no_name : (field : List ℕ) → length field ≡ 48 → ((name : List ℕ) → IsName field name → ⊥) → IsNoName field
none-no_name field size none =
    elim (ways field size) [
      | inl start ↦ no_name field size (inl start)
      | inr (inl whole) ↦ no_name field size (inr whole)
      | inr (inr (some, below)) ↦ absurd (none (before_zero field) (is_name field size some below))
    ]

-- the function answers none for these reasons alone
pub none_answered : (field : List ℕ) → length field ≡ 48 → name_of field ≡ None → IsNoName field
none_answered field size e =
    none-no_name field size (λ name is. subst (λ (o : Option (List ℕ)). IfNone o ⊥) (sym (name_only field name is) ∙ e) tt)

-- a name that is answered is the name
pub name_answered : (field name : List ℕ) → length field ≡ 48 → name_of field ≡ Some name → IsName field name
name_answered field name size e = subst (λ (o : Option (List ℕ)). IfSome o (IsName field)) e (name_found field size)
