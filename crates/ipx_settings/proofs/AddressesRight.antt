use Rattle.std.proofs.Common.{◌≡◌, ℕ, zero, suc, ◌+◌, ◌-◌, ◌*◌, ◌^◌, ◌<◌, ◌==◌, ◌||◌, ◌&&◌, nat_le, nat_lt, if◌then◌else◌, Bool, true, false, List, [], ◌∷◌, ◌++◌, length, get_or, take, drop, refl, subst, ◌∙◌, arith, Option, Some, None}
use Rattle.std.proofs.NetLemmas.Options.{cond_some}
use Rattle.std.proofs.lemmas.Bool.{and_parts, leb-true}
use Rattle.std.proofs.lemmas.Bool.Decides.{nat_tests}
use Rattle.std.proofs.lemmas.List.{length-append, length-set, length-take-le}
use Rattle.std.specs.Option.{option_map}
use Rattle.std.specs.Prelude.{slice_set}
use Rattle.ipx_settings.specs.Addresses.{opening, closing, own_host, port_of, host_of, four_at, six_at, four_and_port, port_behind, six_and_port, address_of}
use Rattle.ipx_settings.specs.Cutting.{◌>>=◌, cut_at, parts, dot, colon}
use Rattle.ipx_settings.specs.Hosts.{is_padded, octet_of, four_of, no_groups, with_group, with_four, with_digits, with_part, groups_from, groups_of, gap_of, whole_six, around_gap, six_by, six_of}
use Rattle.ipx_settings.specs.Numbers.{is_numeral, number_to, number_of, hexadecimal_of}
use Rattle.ipx_settings.specs.Right.{AreNumbers, IsAddress}
use Rattle.ipx_settings.specs.RightLines.{Within}
use Rattle.ipx_settings.specs.declared.addresses.Address.{Address}
use Rattle.ipx_settings.specs.declared.hosts.Groups.{Groups}
use Rattle.std.specs.Str.Parse.{digits_value}
use Rattle.ipx_settings.proofs.AddressesAgain.{one_value}
use Rattle.ipx_settings.proofs.SixAgain.{AreGroups, take_are}

-- what comes of two steps that both succeed
pub bound : {A B : Type 0} (P : B → Type 0) (o : Option A) (f : A → Option B) (b : B) → ((a : A) → o ≡ Some a → f a ≡ Some b → P b) → (o >>= f) ≡ Some b → P b
bound P None f b h e = absurd (no_value b e)
  where
    no_value : {B : Type 0} (b : B) → None ≡ Some b → ⊥
    no_value b bad = cc
bound P (Some a) f b h e = h a refl e

pub mapped : {A B : Type 0} (P : B → Type 0) (f : A → B) (o : Option A) (b : B) → ((a : A) → o ≡ Some a → P (f a)) → option_map f o ≡ Some b → P b
mapped P f None b h e = absurd (no_value b e)
  where
    no_value : {B : Type 0} (b : B) → None ≡ Some b → ⊥
    no_value b bad = cc
mapped P f (Some a) b h e = subst P (one_value (f a) b e) (h a refl)

-- a choice by a test
pub chosen : {A : Type 0} (P : A → Type 0) (test : Bool) (first other : Option A) (a : A) → (test ≡ true → first ≡ Some a → P a) → (test ≡ false → other ≡ Some a → P a) → (if test then first else other) ≡ Some a → P a
chosen P true first other a left right e = left refl e
chosen P false first other a left right e = right refl e

pub no_value : {B : Type 0} (b : B) → None ≡ Some b → ⊥
no_value b bad = cc

number_within : (base least most n : ℕ) (word : List ℕ) → number_to base least most word ≡ Some n → Within least most n
number_within base least most n word e =
    let (test, same) = cond_some (is_numeral base word && nat_le least (digits_value base word) && nat_le (digits_value base word) most) (digits_value base word) n e in
    let (front, high) = and_parts (is_numeral base word && nat_le least (digits_value base word)) (nat_le (digits_value base word) most) test in
    let low = (and_parts (is_numeral base word) (nat_le least (digits_value base word)) front).1 in
    subst (Within least most) same (leb-true least (digits_value base word) low, leb-true (digits_value base word) most high)

pub decimal_within : (least most n : ℕ) (word : List ℕ) → number_of least most word ≡ Some n → Within least most n
decimal_within least most n word e = number_within 10 least most n word e

pub hexadecimal_within : (digits least most n : ℕ) (word : List ℕ) → hexadecimal_of digits least most word ≡ Some n → Within least most n
hexadecimal_within digits least most n word e =
    chosen (Within least most) (nat_le (length word) digits) (number_to 16 least most word) None n (λ _ f. number_within 16 least most n word f) (λ _ f. absurd (no_value n f)) e

octet_low : (part : List ℕ) (n : ℕ) → octet_of part ≡ Some n → n < 2 ^ 8
octet_low part n e =
    chosen (λ n. n < 2 ^ 8) (is_padded part) None (number_of 0 255 part) n (λ _ f. absurd (no_value n f)) (λ _ f. omega (arith, decimal_within 0 255 n part f)) e

port_low : (word : List ℕ) (port : ℕ) → port_of word ≡ Some port → port < 2 ^ 16
port_low word port e = omega (arith, decimal_within 0 65535 port word e)

four_numbers : (w x y z : ℕ) → w < 2 ^ 8 → x < 2 ^ 8 → y < 2 ^ 8 → z < 2 ^ 8 → AreNumbers 4 8 (w ∷ x ∷ y ∷ z ∷ [])
four_numbers w x y z lw lx ly lz = (refl, each)
  where
    each : (k : ℕ) → get_or (w ∷ x ∷ y ∷ z ∷ []) k 0 < 2 ^ 8
    each zero = lw
    each (suc zero) = lx
    each (suc (suc zero)) = ly
    each (suc (suc (suc zero))) = lz
    each (suc (suc (suc (suc k)))) = omega arith

pub four_right : (word four : List ℕ) → four_of word ≡ Some four → AreNumbers 4 8 four
four_right word four e =
    bound (AreNumbers 4 8) (cut_at dot word) _ four (λ a _ e1.
    bound (AreNumbers 4 8) (cut_at dot a.1) _ four (λ b _ e2.
    bound (AreNumbers 4 8) (cut_at dot b.1) _ four (λ c _ e3.
    bound (AreNumbers 4 8) (octet_of a.0) _ four (λ w iw e4.
    bound (AreNumbers 4 8) (octet_of b.0) _ four (λ x ix e5.
    bound (AreNumbers 4 8) (octet_of c.0) _ four (λ y iy e6.
    bound (AreNumbers 4 8) (octet_of c.1) _ four (λ z iz e7.
    subst (AreNumbers 4 8) (one_value (w ∷ x ∷ y ∷ z ∷ []) four e7) (four_numbers w x y z (octet_low a.0 w iw) (octet_low b.0 x ix) (octet_low c.0 y iy) (octet_low c.1 z iz)))
    e6) e5) e4) e3) e2) e1) e

-- ---- groups

set_are : (gs : List ℕ) (i g : ℕ) → AreGroups gs → g < 2 ^ 16 → AreGroups (slice_set gs i g)
set_are [] i g are low k = are k
set_are (x ∷ gs) zero g are low zero = low
set_are (x ∷ gs) zero g are low (suc k) = are (suc k)
set_are (x ∷ gs) (suc i) g are low zero = are zero
set_are (x ∷ gs) (suc i) g are low (suc k) = set_are gs i g (λ j. are (suc j)) low k

append_are : (xs ys : List ℕ) → AreGroups xs → AreGroups ys → AreGroups (xs ++ ys)
append_are [] ys left right k = right k
append_are (x ∷ xs) ys left right zero = left zero
append_are (x ∷ xs) ys left right (suc k) = append_are xs ys (λ j. left (suc j)) right k

-- eight groups
abbrev AreRight : Groups → Type 0
AreRight g = AreNumbers 8 16 g.list

no_groups_right : AreRight no_groups
no_groups_right = (refl, each)
  where
    each : (k : ℕ) → get_or no_groups.list k 0 < 2 ^ 16
    each zero = omega arith
    each (suc zero) = omega arith
    each (suc (suc zero)) = omega arith
    each (suc (suc (suc zero))) = omega arith
    each (suc (suc (suc (suc zero)))) = omega arith
    each (suc (suc (suc (suc (suc zero))))) = omega arith
    each (suc (suc (suc (suc (suc (suc zero)))))) = omega arith
    each (suc (suc (suc (suc (suc (suc (suc zero))))))) = omega arith
    each (suc (suc (suc (suc (suc (suc (suc (suc k)))))))) = omega arith

group_right : (group : ℕ) (g h : Groups) → group < 2 ^ 16 → AreRight g → with_group group g ≡ Some h → AreRight h
group_right group g h low are e =
    let next : Groups = record { list = slice_set g.list g.count group; count = g.count + 1; has_four = g.has_four } in
    chosen AreRight (nat_lt g.count 8) (Some next) None h
    (λ _ f. subst AreRight (one_value next h f) (length-set g.list g.count group ∙ are.0, set_are g.list g.count group are.1 low))
    (λ _ f. absurd (no_value h f)) e

with_four_right : (four : List ℕ) (g h : Groups) → AreNumbers 4 8 four → AreRight g → with_four four g ≡ Some h → AreRight h
with_four_right four g h low are e =
    bound AreRight (with_group (get_or four 0 0 * 256 + get_or four 1 0) g) _ h (λ a ia e1.
    bound AreRight (with_group (get_or four 2 0 * 256 + get_or four 3 0) a) _ h (λ b ib e2.
    let first = group_right (get_or four 0 0 * 256 + get_or four 1 0) g a (omega (arith, low.1 0, low.1 1)) are ia in
    let second = group_right (get_or four 2 0 * 256 + get_or four 3 0) a b (omega (arith, low.1 2, low.1 3)) first ib in
    subst AreRight (one_value _ h e2) second)
    e1) e

part_right : (part : List ℕ) (g h : Groups) → AreRight g → with_part part g ≡ Some h → AreRight h
part_right part g h are e =
    chosen AreRight g.has_four None (with_digits (hexadecimal_of 4 0 65535 part) part g) h (λ _ f. absurd (no_value h f)) (λ _ f. by (hexadecimal_of 4 0 65535 part) refl f) e
  where
    by : (o : Option ℕ) → hexadecimal_of 4 0 65535 part ≡ o → with_digits o part g ≡ Some h → AreRight h
    by (Some group) is f = group_right group g h (omega (arith, hexadecimal_within 4 0 65535 group part is)) are f
    by None is f = bound AreRight (four_of part) _ h (λ four ifour e1. with_four_right four g h (four_right part four ifour) are e1) f

groups_right : (g h : Groups) (ps : List (List ℕ)) → AreRight g → groups_from g ps ≡ Some h → AreRight h
groups_right g h [] are e = subst AreRight (one_value g h e) are
groups_right g h (part ∷ more) are e = bound AreRight (with_part part g) _ h (λ a ia e1. groups_right a h more (part_right part g a are ia) e1) e

side_right : (text : List ℕ) (h : Groups) → groups_of text ≡ Some h → AreRight h
side_right text h e =
    chosen AreRight (length text == 0) (Some no_groups) (groups_from no_groups (parts colon text)) h
    (λ _ f. subst AreRight (one_value no_groups h f) no_groups_right)
    (λ _ f. groups_right no_groups h (parts colon text) no_groups_right f) e

around_right : (a b : Groups) (six : List ℕ) → AreRight a → AreRight b → around_gap a b ≡ Some six → AreNumbers 8 16 six
around_right a b six are also e =
    let both = take (8 - b.count) a.list ++ take b.count b.list in
    chosen (AreNumbers 8 16) (a.has_four || nat_le 8 (a.count + b.count)) None (Some both) six (λ _ f. absurd (no_value six f))
    (λ test f.
    let few : a.count + b.count < 8 = below (a.count + b.count) (or_false a.has_four (nat_le 8 (a.count + b.count)) test) in
    let front = length-take-le (8 - b.count) a.list (omega (arith, are.0)) in
    let back = length-take-le b.count b.list (omega (arith, also.0, few)) in
    let size : length both ≡ 8 = omega (arith, length-append (take (8 - b.count) a.list) (take b.count b.list), front, back, few) in
    subst (AreNumbers 8 16) (one_value both six f) (size, append_are (take (8 - b.count) a.list) (take b.count b.list) (take_are (8 - b.count) a.list are.1) (take_are b.count b.list also.1))) e
  where
    or_false : (x y : Bool) → (x || y) ≡ false → y ≡ false
    or_false x y fails = grind arith

    below : (n : ℕ) → nat_le 8 n ≡ false → n < 8
    below n fails = grind (arith, nat_tests)

pub six_right : (word six : List ℕ) → six_of word ≡ Some six → AreNumbers 8 16 six
six_right word six e = by (gap_of word) e
  where
    by : (o : Option ℕ) → six_by o word ≡ Some six → AreNumbers 8 16 six
    by None e =
        bound (AreNumbers 8 16) (groups_from no_groups (parts colon word)) whole_six six (λ g ig e1.
        chosen (AreNumbers 8 16) (g.count == 8) (Some g.list) None six (λ _ f. subst (AreNumbers 8 16) (one_value g.list six f) (groups_right no_groups g (parts colon word) no_groups_right ig)) (λ _ f. absurd (no_value six f)) e1) e
    by (Some k) e =
        bound (AreNumbers 8 16) (groups_of (take k word)) _ six (λ a ia e1.
        bound (AreNumbers 8 16) (groups_of (drop (k + 2) word)) _ six (λ b ib e2.
        around_right a b six (side_right (take k word) a ia) (side_right (drop (k + 2) word) b ib) e2) e1) e

-- ---- addresses

pub own_right : AreNumbers 4 8 own_host
own_right = four_numbers 127 0 0 1 (omega arith) (omega arith) (omega arith) (omega arith)

host_right : (word four : List ℕ) → host_of word ≡ Some four → AreNumbers 4 8 four
host_right word four e =
    chosen (AreNumbers 4 8) (length word == 0) (Some own_host) (four_of word) four (λ _ f. subst (AreNumbers 4 8) (one_value own_host four f) own_right) (λ _ f. four_right word four f) e

four_and_port_right : (cut : Option (List ℕ × List ℕ)) (word : List ℕ) (address : Address) → four_and_port cut word ≡ Some address → IsAddress address
four_and_port_right None word address e = mapped IsAddress (four_at own_host) (port_of word) address (λ port is. (own_right, port_low word port is)) e
four_and_port_right (Some cut) word address e =
    bound IsAddress (port_of cut.1) _ address (λ port is e1.
    mapped IsAddress (λ four. four_at four port) (host_of cut.0) address (λ four ifour. (host_right cut.0 four ifour, port_low cut.1 port is)) e1) e

port_behind_low : (text : List ℕ) (port : ℕ) → port_behind text ≡ Some port → port < 2 ^ 16
port_behind_low text port e =
    chosen (λ p. p < 2 ^ 16) (get_or text 0 0 == colon) (port_of (drop 1 text)) None port (λ _ f. port_low (drop 1 text) port f) (λ _ f. absurd (no_value port f)) e

six_and_port_right : (text : List ℕ) (address : Address) → six_and_port text ≡ Some address → IsAddress address
six_and_port_right text address e =
    bound IsAddress (cut_at closing text) _ address (λ cut _ e1.
    bound IsAddress (port_behind cut.1) _ address (λ port is e2.
    mapped IsAddress (λ six. six_at six port) (six_of cut.0) address (λ six isix. (six_right cut.0 six isix, port_behind_low cut.1 port is)) e2) e1) e

-- what was read of an address is one
pub address_right : (word : List ℕ) (address : Address) → address_of word ≡ Some address → IsAddress address
address_right word address e =
    chosen IsAddress (get_or word 0 0 == opening) (six_and_port (drop 1 word)) (four_and_port (cut_at colon word) word) address
    (λ _ f. six_and_port_right (drop 1 word) address f) (λ _ f. four_and_port_right (cut_at colon word) word address f) e
