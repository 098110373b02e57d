use Rattle.std.proofs.Common.{◌≡◌, ◌≢◌, ℕ, zero, suc, ◌+◌, ◌-◌, ◌*◌, ◌/◌, ◌%◌, ◌^◌, ◌<◌, ◌≤◌, nat_le, nat_lt, true, false, List, [], ◌∷◌, ◌++◌, length, get_or, take, drop, replicate, flat_map, map, refl, sym, ap, ap₂, ◌∙◌, arith, inl, inr, Option, Some, None, ne_eqb, eq-eqb, lt-ltb, le-ltb, append-nil, append_assoc, take-append-drop, take-add, length-take-le, length-drop}
use Rattle.std.proofs.Math.Seq.{take-append_seam, drop-append-add, take-append-add}
use Rattle.std.proofs.NetLemmas.Arrays.{eight_items}
use Rattle.std.proofs.NetLemmas.Texts.{IsZeroRun-longest_zero_run}
use Rattle.std.proofs.lemmas.Bool.{cases_lt, cond_both, lt-leb, and_parts}
use Rattle.std.proofs.lemmas.List.{length-append, take-replicate}
use Rattle.std.proofs.lemmas.Slice.Eq.{bytes_eq-Decides}
use Rattle.std.specs.Char.{digit_value}
use Rattle.std.specs.List.{AllByRecursion}
use Rattle.std.specs.Net.Addr.{octets_of}
use Rattle.std.specs.Net.Text.{ipv4_text, hex, groups_text, longest_zero_run, hex_groups_text, ipv6_text}
use Rattle.std.specs.Prelude.{codes, bytes_eq, slice_set}
use Rattle.ipx_settings.specs.Cutting.{colon, parts}
use Rattle.ipx_settings.specs.Hosts.{no_groups, with_group, with_four, with_part, groups_from, groups_of, gap_of, around_gap, six_of}
use Rattle.ipx_settings.specs.Right.{AreNumbers}
use Rattle.ipx_settings.specs.WritingAddresses.{is_compatible, six_words}
use Rattle.ipx_settings.specs.declared.hosts.Groups.{Groups}
use Rattle.ipx_settings.proofs.Cuts.{parts_cut, parts_uncut}
use Rattle.ipx_settings.proofs.Gaps.{shifted, here}
use Rattle.ipx_settings.proofs.NumbersAgain.{group_digits, group_again, each-group, without-group, each-four, length-four, four_again}
use Rattle.ipx_settings.proofs.Without.{Without, each-append, other_byte, cut_front, cut_none}

-- numbers of 16 bits
abbrev pub AreGroups : List ℕ → Type 0
AreGroups groups = (k : ℕ) → get_or groups k 0 < 2 ^ 16

rest_are : (g : ℕ) (gs : List ℕ) → AreGroups (g ∷ gs) → AreGroups gs
rest_are g gs are k = are (suc k)

pub take_are : (n : ℕ) (gs : List ℕ) → AreGroups gs → AreGroups (take n gs)
take_are zero gs are k = omega arith
take_are (suc n) [] are k = omega arith
take_are (suc n) (g ∷ gs) are zero = are zero
take_are (suc n) (g ∷ gs) are (suc k) = take_are n gs (rest_are g gs are) k

drop_are : (n : ℕ) (gs : List ℕ) → AreGroups gs → AreGroups (drop n gs)
drop_are zero gs are = are
drop_are (suc n) [] are = are
drop_are (suc n) (g ∷ gs) are = drop_are n gs (rest_are g gs are)

-- groups with a colon before each
abbrev pub behind : List ℕ → List ℕ
behind gs = flat_map (λ t. codes ":" ++ hex t) gs

-- ---- where two colons stand

skip : (c : ℕ) (rest : List ℕ) → c ≢ 58 → gap_of (c ∷ rest) ≡ shifted 1 (gap_of rest)
skip c [] other = refl
skip c (b ∷ more) other = rw (ne_eqb c 58 other) refl

skip_colon : (c : ℕ) (rest : List ℕ) → c ≢ 58 → gap_of (58 ∷ c ∷ rest) ≡ shifted 1 (gap_of (c ∷ rest))
skip_colon c rest other = rw (ne_eqb c 58 other) refl

twice : (m n : ℕ) (place : Option ℕ) → shifted m (shifted n place) ≡ shifted (m + n) place
twice m n None = refl
twice m n (Some k) = ap Some (omega arith)

skip_all : (xs rest : List ℕ) → Without 58 xs → gap_of (xs ++ rest) ≡ shifted (length xs) (gap_of rest)
skip_all [] rest none = here (gap_of rest)
skip_all (x ∷ xs) rest none =
    let one : 1 + length xs ≡ suc (length xs) = omega arith in
    skip x (xs ++ rest) none.0 ∙ ap (shifted 1) (skip_all xs rest none.1) ∙ twice 1 (length xs) (gap_of rest) ∙ ap (λ n. shifted n (gap_of rest)) one

colon_first : (xs rest : List ℕ) → Without 58 xs → 0 < length xs → gap_of (58 ∷ (xs ++ rest)) ≡ shifted (suc (length xs)) (gap_of rest)
colon_first [] rest none some = absurd (omega (arith, some))
colon_first (x ∷ xs) rest none some =
    let one : 1 + suc (length xs) ≡ suc (suc (length xs)) = omega arith in
    skip_colon x (xs ++ rest) none.0 ∙ ap (shifted 1) (skip_all (x ∷ xs) rest none) ∙ twice 1 (suc (length xs)) (gap_of rest) ∙ ap (λ n. shifted n (gap_of rest)) one

gap_behind : (gs rest : List ℕ) → AreGroups gs → gap_of (behind gs ++ rest) ≡ shifted (length (behind gs)) (gap_of rest)
gap_behind [] rest are = here (gap_of rest)
gap_behind (g ∷ gs) rest are =
    let some : 0 < length (hex g) = (group_digits g (are 0)).0.0 in
    let none = without-group 58 g (are 0) refl in
    let size : suc (length (hex g)) + length (behind gs) ≡ length (behind (g ∷ gs)) = omega (arith, length-append (hex g) (behind gs)) in
    ap (λ l. gap_of (58 ∷ l)) (append_assoc (hex g) (behind gs) rest)
    ∙ colon_first (hex g) (behind gs ++ rest) none some
    ∙ ap (shifted (suc (length (hex g)))) (gap_behind gs rest (rest_are g gs are))
    ∙ twice (suc (length (hex g))) (length (behind gs)) (gap_of rest)
    ∙ ap (λ n. shifted n (gap_of rest)) size

pub gap_groups : (gs rest : List ℕ) → AreGroups gs → gap_of (groups_text gs ++ rest) ≡ shifted (length (groups_text gs)) (gap_of rest)
gap_groups [] rest are = here (gap_of rest)
gap_groups (g ∷ gs) rest are =
    let none = without-group 58 g (are 0) refl in
    let size : length (hex g) + length (behind gs) ≡ length (groups_text (g ∷ gs)) = omega (arith, length-append (hex g) (behind gs)) in
    ap gap_of (append_assoc (hex g) (behind gs) rest)
    ∙ skip_all (hex g) (behind gs ++ rest) none
    ∙ ap (shifted (length (hex g))) (gap_behind gs rest (rest_are g gs are))
    ∙ twice (length (hex g)) (length (behind gs)) (gap_of rest)
    ∙ ap (λ n. shifted n (gap_of rest)) size

-- ---- the parts between colons

pub parts_groups : (g : ℕ) (gs : List ℕ) → AreGroups (g ∷ gs) → parts colon (groups_text (g ∷ gs)) ≡ map hex (g ∷ gs)
parts_groups g [] are =
    rw (append-nil (hex g)) (parts_uncut colon (hex g) (sym (cut_none colon (hex g) (without-group colon g (are 0) refl))))
parts_groups g (h ∷ gs) are =
    parts_cut colon (groups_text (g ∷ h ∷ gs)) (hex g) (groups_text (h ∷ gs)) (sym (cut_front colon (hex g) (groups_text (h ∷ gs)) (without-group colon g (are 0) refl)))
    ∙ ap (λ l. hex g ∷ l) (parts_groups h gs (rest_are g (h ∷ gs) are))

-- ---- groups that were read

-- these, and zeros
abbrev pub begun : List ℕ → Groups
begun pre = record { list = pre ++ replicate (8 - length pre) 0; count = length pre; has_four = false }

set_next : (pre : List ℕ) (n g : ℕ) → slice_set (pre ++ replicate (suc n) 0) (length pre) g ≡ (pre ++ g ∷ []) ++ replicate n 0
set_next [] n g = refl
set_next (x ∷ pre) n g = ap (λ l. x ∷ l) (set_next pre n g)

same_groups : (a b : List ℕ) (m n : ℕ) → a ≡ b → m ≡ n → ◌≡◌ {A = Groups} (record { list = a; count = m; has_four = false }) (record { list = b; count = n; has_four = false })
same_groups a b m n e f = rw (e, f) refl

one_more : (g : ℕ) (pre : List ℕ) → length pre < 8 → with_group g (begun pre) ≡ Some (begun (pre ++ g ∷ []))
one_more g pre few =
    let size : length (pre ++ g ∷ []) ≡ length pre + 1 = length-append pre (g ∷ []) in
    let room : 8 - length pre ≡ suc (8 - length (pre ++ g ∷ [])) = omega (arith, size, few) in
    let list : slice_set (pre ++ replicate (8 - length pre) 0) (length pre) g ≡ (pre ++ g ∷ []) ++ replicate (8 - length (pre ++ g ∷ [])) 0 =
    ap (λ n. slice_set (pre ++ replicate n 0) (length pre) g) room ∙ set_next pre (8 - length (pre ++ g ∷ [])) g in
    rw (lt-ltb (length pre) 8 few) (ap Some (same_groups _ _ _ _ list (sym size)))

pub all_groups : (pre gs : List ℕ) → AreGroups gs → length pre + length gs ≤ 8 → groups_from (begun pre) (map hex gs) ≡ Some (begun (pre ++ gs))
all_groups pre [] are room = ap (λ l. Some (begun l)) (sym (append-nil pre))
all_groups pre (g ∷ gs) are room =
    let few : length pre < 8 = omega (arith, room) in
    let next : with_part (hex g) (begun pre) ≡ Some (begun (pre ++ g ∷ [])) = rw (group_again g (are 0)) (one_more g pre few) in
    let size : length (pre ++ g ∷ []) + length gs ≤ 8 = omega (arith, length-append pre (g ∷ []), room) in
    rw next (all_groups (pre ++ g ∷ []) gs (rest_are g gs are) size ∙ ap (λ l. Some (begun l)) (append_assoc pre (g ∷ []) gs))

pub side_again : (gs : List ℕ) → AreGroups gs → length gs ≤ 8 → groups_of (groups_text gs) ≡ Some (begun gs)
side_again [] are few = refl
side_again (g ∷ gs) are few =
    let some : 0 < length (groups_text (g ∷ gs)) = omega (arith, length-append (hex g) (behind gs), (group_digits g (are 0)).0.0) in
    rw (ne_eqb (length (groups_text (g ∷ gs))) 0 (λ e. omega (arith, e, some)), parts_groups g gs are) (all_groups [] (g ∷ gs) are (omega (arith, few)))

around : (a b : List ℕ) → length a + length b < 8 → around_gap (begun a) (begun b) ≡ Some (a ++ replicate (8 - length b - length a) 0 ++ b)
around a b few =
    let front : take (8 - length b) (a ++ replicate (8 - length a) 0) ≡ a ++ replicate (8 - length b - length a) 0 =
    (let split : 8 - length b ≡ length a + (8 - length b - length a) = omega (arith, few) in
    ap (λ n. take n (a ++ replicate (8 - length a) 0)) split
    ∙ take-append-add a (replicate (8 - length a) 0) (8 - length b - length a)
    ∙ ap (λ l. a ++ l) (take-replicate (8 - length b - length a) (8 - length a) 0 (omega arith))) in
    let back : take (length b) (b ++ replicate (8 - length b) 0) ≡ b = take-append_seam b (replicate (8 - length b) 0) in
    rw (lt-leb 8 (length a + length b) few, front, back) refl

-- ---- addresses

gap_again : (a b : List ℕ) → AreGroups a → AreGroups b → length a + length b < 8
    → six_of (groups_text a ++ codes "::" ++ groups_text b) ≡ Some (a ++ replicate (8 - length b - length a) 0 ++ b)
gap_again a b are also few =
    let front = groups_text a in
    let rest = 58 ∷ 58 ∷ groups_text b in
    let word : front ++ codes "::" ++ groups_text b ≡ front ++ rest = append_assoc front (codes "::") (groups_text b) in
    let found : gap_of (front ++ rest) ≡ Some (length front) = gap_groups a rest are ∙ ap Some (omega arith) in
    let before : take (length front) (front ++ rest) ≡ front = take-append_seam front rest in
    let after : drop (length front + 2) (front ++ rest) ≡ groups_text b = drop-append-add front rest 2 in
    rw (word, found, before, after, side_again a are (omega (arith, few)), side_again b also (omega (arith, few))) (around a b few)

whole_again : (gs : List ℕ) → AreNumbers 8 16 gs → six_of (groups_text gs) ≡ Some gs
whole_again [] are = absurd (omega (arith, are.0))
whole_again (g ∷ gs) are =
    let all = g ∷ gs in
    let none : gap_of (groups_text all) ≡ None = ap gap_of (sym (append-nil (groups_text all))) ∙ gap_groups all [] are.1 in
    let room : 8 - length all ≡ 0 = omega (arith, are.0) in
    let full : all ++ replicate (8 - length all) 0 ≡ all = ap (λ n. all ++ replicate n 0) room ∙ append-nil all in
    rw (none, parts_groups g gs are.1, all_groups [] all are.1 (omega (arith, are.0)), eq-eqb (length all) 8 are.0) (ap Some full)

pub shortest_again : (xs : List ℕ) → AreNumbers 8 16 xs → six_of (hex_groups_text xs) ≡ Some xs
unfolding hex_groups_text
shortest_again xs are =
    let start = (longest_zero_run xs).0 in
    let len = (longest_zero_run xs).1 in
    let (within, zeros) = IsZeroRun-longest_zero_run xs in
    let front : length (take start xs) ≡ start = length-take-le start xs (omega (arith, within)) in
    let back : length (drop (start + len) xs) ≡ length xs - (start + len) = length-drop (start + len) xs in
    elim (cases_lt 1 len) [
      | inl long ↦
          let gap : 8 - length (drop (start + len) xs) - length (take start xs) ≡ len = omega (arith, within, front, back, are.0, long) in
          let value : take start xs ++ replicate (8 - length (drop (start + len) xs) - length (take start xs)) 0 ++ drop (start + len) xs ≡ xs =
          rw (gap, ← zeros, ← take-add start len xs) (take-append-drop (start + len) xs) in
          rw (lt-ltb 1 len long) (gap_again (take start xs) (drop (start + len) xs) (take_are start xs are.1) (drop_are (start + len) xs are.1) (omega (arith, within, front, back, are.0, long)) ∙ ap Some value)
      | inr short ↦ rw (le-ltb 1 len short) (whole_again xs are)
    ]

-- ---- addresses of IPv4 in them

side_of : (text : List ℕ) (found : List (List ℕ)) (g : Option Groups) → 0 < length text → parts colon text ≡ found → groups_from no_groups found ≡ g → groups_of text ≡ g
side_of text found g some split read = rw (ne_eqb (length text) 0 (λ e. omega (arith, e, some)), split) read

-- two colons in front
gap_first : (text : List ℕ) (g : Groups) → groups_of text ≡ Some g → six_of (58 ∷ 58 ∷ text) ≡ around_gap no_groups g
gap_first text g e = rw e refl

-- the last two groups of an address of IPv6
module _ (g h : ℕ) (high : g < 2 ^ 16) (low : h < 2 ^ 16) where
  abbrev pub octets : List ℕ
  octets = octets_of (g ∷ h ∷ [])

  are_octets : AreNumbers 4 8 octets
  are_octets = (refl, each)
    where
      each : (k : ℕ) → get_or octets k 0 < 2 ^ 8
      each zero = omega (arith, high)
      each (suc zero) = omega arith
      each (suc (suc zero)) = omega (arith, low)
      each (suc (suc (suc zero))) = omega arith
      each (suc (suc (suc (suc k)))) = omega arith

  read_octets : (pre : List ℕ) → length pre ≤ 6 → with_part (ipv4_text octets) (begun pre) ≡ with_four octets (begun pre)
  read_octets pre few =
      let long : nat_le (length (ipv4_text octets)) 4 ≡ false = lt-leb (length (ipv4_text octets)) 4 (omega (arith, length-four octets are_octets)) in
      rw (long, four_again octets are_octets) refl

  first : g / 256 * 256 + g % 256 ≡ g
  first = omega arith

  second : h / 256 * 256 + h % 256 ≡ h
  second = omega arith

  no_colon : Without colon (ipv4_text octets)
  no_colon = each-four (λ c. c ≢ colon) octets are_octets (λ c. other_byte colon c refl) (omega arith)

  pub mapped_again : six_of (codes "::ffff:" ++ ipv4_text octets) ≡ Some (0 ∷ 0 ∷ 0 ∷ 0 ∷ 0 ∷ 0xffff ∷ g ∷ h ∷ [])
  mapped_again =
      let text = codes "ffff:" ++ ipv4_text octets in
      let split : parts colon text ≡ codes "ffff" ∷ ipv4_text octets ∷ [] =
      parts_cut colon text (codes "ffff") (ipv4_text octets) (sym (cut_front colon (codes "ffff") (ipv4_text octets) (omega arith)))
      ∙ ap (λ l. codes "ffff" ∷ l) (parts_uncut colon (ipv4_text octets) (sym (cut_none colon (ipv4_text octets) no_colon))) in
      let read : groups_from no_groups (codes "ffff" ∷ ipv4_text octets ∷ []) ≡ with_four octets (begun (0xffff ∷ [])) =
      rw (read_octets (0xffff ∷ []) (omega arith)) refl in
      let three : Groups = record { list = 0xffff ∷ g ∷ h ∷ 0 ∷ 0 ∷ 0 ∷ 0 ∷ 0 ∷ []; count = 3; has_four = true } in
      let value : with_four octets (begun (0xffff ∷ [])) ≡ Some three = rw (first, second) refl in
      gap_first text three (side_of text _ (Some three) (omega arith) split (read ∙ value))

  pub compatible_again : six_of (codes "::" ++ ipv4_text octets) ≡ Some (0 ∷ 0 ∷ 0 ∷ 0 ∷ 0 ∷ 0 ∷ g ∷ h ∷ [])
  compatible_again =
      let some : 0 < length (ipv4_text octets) = omega (arith, length-four octets are_octets) in
      let split : parts colon (ipv4_text octets) ≡ ipv4_text octets ∷ [] = parts_uncut colon (ipv4_text octets) (sym (cut_none colon (ipv4_text octets) no_colon)) in
      rw (ne_eqb (length (ipv4_text octets)) 0 (λ e. omega (arith, e, some)), split, read_octets [] (omega arith), first, second) refl

-- an address of IPv6 that ends with one of IPv4
all_of : (front xs : List ℕ) → length xs ≡ 8 → bytes_eq (take 6 xs) front ≡ true → xs ≡ front ++ get_or xs 6 0 ∷ get_or xs 7 0 ∷ []
all_of front xs eight same =
    sym (take-append-drop 6 xs) ∙ ap₂ ◌++◌ ((bytes_eq-Decides (take 6 xs) front).0 same) (ap (λ t. drop 6 t) (eight_items xs eight))

plain_again : (xs : List ℕ) → AreNumbers 8 16 xs → six_of (ipv6_text xs) ≡ Some xs
unfolding ipv6_text
plain_again xs are =
    let last : drop 6 xs ≡ get_or xs 6 0 ∷ get_or xs 7 0 ∷ [] = ap (λ t. drop 6 t) (eight_items xs are.0) in
    cond_both (bytes_eq (take 6 xs) (0 ∷ 0 ∷ 0 ∷ 0 ∷ 0 ∷ 0xffff ∷ [])) (codes "::ffff:" ++ ipv4_text (octets_of (drop 6 xs))) (hex_groups_text xs) (λ text. six_of text ≡ Some xs)
    (λ same. rw last (mapped_again (get_or xs 6 0) (get_or xs 7 0) (are.1 6) (are.1 7) ∙ ap Some (sym (all_of (0 ∷ 0 ∷ 0 ∷ 0 ∷ 0 ∷ 0xffff ∷ []) xs are.0 same))))
    (λ _. shortest_again xs are)

pub six_again : (xs : List ℕ) → AreNumbers 8 16 xs → six_of (six_words xs) ≡ Some xs
six_again xs are =
    let last : drop 6 xs ≡ get_or xs 6 0 ∷ get_or xs 7 0 ∷ [] = ap (λ t. drop 6 t) (eight_items xs are.0) in
    cond_both (is_compatible xs) (codes "::" ++ ipv4_text (octets_of (drop 6 xs))) (ipv6_text xs) (λ text. six_of text ≡ Some xs)
    (λ is.
    let same = (and_parts _ _ is).0 in
    rw last (compatible_again (get_or xs 6 0) (get_or xs 7 0) (are.1 6) (are.1 7) ∙ ap Some (sym (all_of (0 ∷ 0 ∷ 0 ∷ 0 ∷ 0 ∷ 0 ∷ []) xs are.0 same))))
    (λ _. plain_again xs are)

-- ---- its bytes

each-behind : (P : ℕ → Type 0) (gs : List ℕ) → AreGroups gs → ((c : ℕ) → digit_value c < 16 → P c) → P 58 → AllByRecursion P (behind gs)
each-behind P [] are each mark = tt
each-behind P (g ∷ gs) are each mark = (mark, each-append P (hex g) (behind gs) (each-group P g (are 0) each) (each-behind P gs (rest_are g gs are) each mark))

each-groups : (P : ℕ → Type 0) (gs : List ℕ) → AreGroups gs → ((c : ℕ) → digit_value c < 16 → P c) → P 58 → AllByRecursion P (groups_text gs)
each-groups P [] are each mark = tt
each-groups P (g ∷ gs) are each mark = each-append P (hex g) (behind gs) (each-group P g (are 0) each) (each-behind P gs (rest_are g gs are) each mark)

each-shortest : (P : ℕ → Type 0) (xs : List ℕ) → AreGroups xs → ((c : ℕ) → digit_value c < 16 → P c) → P 58 → AllByRecursion P (hex_groups_text xs)
unfolding hex_groups_text
each-shortest P xs are each mark =
    let start = (longest_zero_run xs).0 in
    let len = (longest_zero_run xs).1 in
    let front = each-groups P (take start xs) (take_are start xs are) each mark in
    let back = each-groups P (drop (start + len) xs) (drop_are (start + len) xs are) each mark in
    cond_both (nat_lt 1 len) (groups_text (take start xs) ++ codes "::" ++ groups_text (drop (start + len) xs)) (groups_text xs) (AllByRecursion P)
    (λ _. each-append P _ _ (each-append P _ _ front (mark, (mark, tt))) back)
    (λ _. each-groups P xs are each mark)

pub each-six : (P : ℕ → Type 0) (xs : List ℕ) → AreNumbers 8 16 xs → ((c : ℕ) → digit_value c < 16 → P c) → P 46 → P 58 → AllByRecursion P (six_words xs)
unfolding ipv6_text
each-six P xs are each dot mark =
    let last : drop 6 xs ≡ get_or xs 6 0 ∷ get_or xs 7 0 ∷ [] = ap (λ t. drop 6 t) (eight_items xs are.0) in
    let octets_are : AllByRecursion P (ipv4_text (octets_of (drop 6 xs))) =
    rw last (each-four P (octets (get_or xs 6 0) (get_or xs 7 0) (are.1 6) (are.1 7)) (are_octets (get_or xs 6 0) (get_or xs 7 0) (are.1 6) (are.1 7)) each dot) in
    let f : P 102 = each 102 (omega arith) in
    cond_both (is_compatible xs) (codes "::" ++ ipv4_text (octets_of (drop 6 xs))) (ipv6_text xs) (AllByRecursion P)
    (λ _. (mark, (mark, octets_are)))
    (λ _. cond_both (bytes_eq (take 6 xs) (0 ∷ 0 ∷ 0 ∷ 0 ∷ 0 ∷ 0xffff ∷ [])) (codes "::ffff:" ++ ipv4_text (octets_of (drop 6 xs))) (hex_groups_text xs) (AllByRecursion P)
    (λ _. (mark, (mark, (f, (f, (f, (f, (mark, octets_are))))))))
    (λ _. each-shortest P xs are.1 each mark))
