-- The name of a service, which a packet keeps in a field of 48 bytes (IPX Router Specification).
use Rattle.std.specs.Prelude.{◌≡◌, ℕ, ◌-◌, ◌<◌, ◌≤◌, ◌⊎◌, ◌==◌, nat_lt, if◌then◌else◌, List, [], ◌∷◌, ◌++◌, length, replicate, slice_index, Bool, nat_eq, Option, None, Some}
use Rattle.std.specs.List.{before_first, AllByRecursion}
use Rattle.std.specs.Ordering.{nat_cmp}
use Rattle.std.specs.declared.cmp.Ordering.{Ordering}
use Rattle.std.specs.Cmp.Lexicographic.{slice_cmp, pointwise}

-- a name: 1 to 47 bytes, none of them zero
pub record IsServiceName (name : List ℕ) : Type 0 where
  pub some : 1 ≤ length name
  pub most : length name ≤ 47
  pub full : AllByRecursion (λ byte. 0 < byte) name

-- the 48 bytes are the name, a zero, and any rest
pub record IsName (field name : List ℕ) : Type 0 where
  pub rest : List ℕ
  pub layout : field ≡ name ++ 0 ∷ rest
  pub size : length field ≡ 48
  pub named : IsServiceName name

-- why a field has no name: it begins with a zero, or has none (own)
abbrev pub IsNoName : List ℕ → Type 0
IsNoName field = (slice_index field 0 ≡ 0) ⊎ AllByRecursion (λ byte. 0 < byte) field

-- the bytes before the first zero; all of them, where there is none
abbrev pub before_zero : List ℕ → List ℕ
before_zero field = before_first (λ byte. byte == 0) field

-- the name in a field, if it has one
unfoldable pub name_of : List ℕ → Option (List ℕ)
name_of field =
    if nat_lt 0 (length (before_zero field)) then
    if nat_lt (length (before_zero field)) 48 then Some (before_zero field) else None
    else None

-- the field of a name as it is sent: the name, then zeros
unfoldable pub name_field : List ℕ → List ℕ
name_field name = name ++ replicate (48 - length name) 0

-- what a name keeps: its field as it is sent, and how many bytes of it are the name
pub record IsKeptName (field : List ℕ) (name : List ℕ) (count : ℕ) : Type 0 where
  pub sent : field ≡ name_field name
  pub counted : length name ≡ count
  pub named : IsServiceName name

-- names are in the order of their bytes, a proper prefix being the smaller (own)
abbrev pub name_order : List ℕ → List ℕ → Ordering
name_order a b = slice_cmp nat_cmp a b

-- names are the same if their bytes are
abbrev pub same_name : List ℕ → List ℕ → Bool
same_name a b = pointwise nat_eq a b

-- the name that stands for none, the question mark (own)
abbrev pub default_name : List ℕ
default_name = 63 ∷ []
