use Rattle.std.proofs.Common.{◌≡◌, ◌≢◌, ℕ, ◌+◌, ◌*◌, ◌/◌, ◌%◌, ◌^◌, ◌<◌, ◌≤◌, true, false, List, [], ◌∷◌, ◌++◌, length, get_or, refl, sym, ap, subst, ◌∙◌, arith, inl, inr, Some, le-leb, ne_eqb}
use Rattle.std.proofs.lemmas.Bool.{cases_Bool, cases_eq}
use Rattle.std.proofs.lemmas.Bool.Decides.{nat_tests}
use Rattle.std.proofs.lemmas.Fmt.{decimal_is_IsNumeral}
use Rattle.std.proofs.lemmas.Slice.Eq.{bytes_eq-Decides, text_from_reads}
use Rattle.std.specs.Char.{digit_value}
use Rattle.std.specs.Fmt.{digit_glyph}
use Rattle.std.specs.Int.{to_be_bytes, w16, w32}
use Rattle.std.specs.List.{AllByRecursion}
use Rattle.std.specs.Prelude.{codes, decimal, bytes_eq}
use Rattle.std.specs.Str.Parse.{AllDigits, digits_value, digits_value_after}
use Rattle.ipx_settings.specs.Lines.{most_rate, rate_or_none, socket_of}
use Rattle.ipx_settings.specs.Networks.{last_network}
use Rattle.ipx_settings.specs.Nodes.{node_bytes_of, node_of}
use Rattle.ipx_settings.specs.Numbers.{hexadecimal_of}
use Rattle.ipx_settings.specs.Right.{AreNumbers, IsInWord, IsWord}
use Rattle.ipx_settings.specs.RightLines.{IsNode}
use Rattle.ipx_settings.specs.Rules.{last_route}
use Rattle.ipx_settings.specs.Statics.{last_type}
use Rattle.ipx_settings.specs.WritingLines.{byte_digits, bytes_digits, number_word, socket_word, rate_word}
use Rattle.ipx_settings.proofs.NumbersAgain.{number_is, number_again}
use Rattle.ipx_settings.proofs.Without.{Without, each-digits, other_byte}

glyph_again : (d : ℕ) → d < 16 → digit_value (digit_glyph true d) ≡ d
glyph_again d low = grind (arith, nat_tests)

-- the two digits of a byte, behind others
byte_value : (v b : ℕ) (rest : List ℕ) → b < 256 → digits_value_after 16 v (byte_digits b ++ rest) ≡ digits_value_after 16 (v * 256 + b) rest
byte_value v b rest low =
    let high = glyph_again (b / 16) (omega (arith, low)) in
    let one = glyph_again (b % 16) (omega arith) in
    let whole : (v * 16 + b / 16) * 16 + b % 16 ≡ v * 256 + b = omega arith in
    rw (high, one, whole) refl

byte_all : (b : ℕ) (rest : List ℕ) → b < 256 → AllDigits 16 rest → AllDigits 16 (byte_digits b ++ rest)
byte_all b rest low all =
    (omega (arith, glyph_again (b / 16) (omega (arith, low)), low), (omega (arith, glyph_again (b % 16) (omega arith)), all))

byte_again : (b : ℕ) → b < 2 ^ 8 → hexadecimal_of 2 0 255 (byte_digits b) ≡ Some b
byte_again b low =
    number_is 16 0 255 b (byte_digits b) (omega arith, byte_all b [] (omega (arith, low)) tt) (byte_value 0 b [] (omega (arith, low)) ∙ (let e : 0 * 256 + b ≡ b = omega arith in e)) (omega arith) (omega (arith, low))

-- digits of bytes
bytes_all : (bs : List ℕ) → AllByRecursion (λ b. b < 256) bs → AllDigits 16 (bytes_digits bs)
unfolding bytes_digits
bytes_all [] each = tt
bytes_all (b ∷ bs) each = byte_all b (bytes_digits bs) each.0 (bytes_all bs each.1)

pub in_digit : (c : ℕ) → digit_value c < 16 → IsInWord c
in_digit c low = (grind (arith, nat_tests), grind (arith, nat_tests))

some_bytes : (b : ℕ) (bs : List ℕ) → 0 < length (bytes_digits (b ∷ bs))
unfolding bytes_digits
some_bytes b bs = omega arith

pub digits_are_word : (b : ℕ) (bs : List ℕ) → AllByRecursion (λ x. x < 256) (b ∷ bs) → IsWord (bytes_digits (b ∷ bs))
digits_are_word b bs each = (some_bytes b bs, each-digits IsInWord 16 (bytes_digits (b ∷ bs)) in_digit (bytes_all (b ∷ bs) each))

pub decimal_is_word : (n : ℕ) → n < 2 ^ 64 → IsWord (decimal n)
decimal_is_word n fits =
    let is = decimal_is_IsNumeral n fits in
    (is.0.0, each-digits IsInWord 10 (decimal n) (λ c low. in_digit c (omega (arith, low))) is.0.1)

-- ---- numbers of networks, and sockets

four_bytes : (n : ℕ) → AllByRecursion (λ b. b < 256) (to_be_bytes w32 n)
four_bytes n = (omega arith, (omega arith, (omega arith, (omega arith, tt))))

two_bytes : (n : ℕ) → AllByRecursion (λ b. b < 256) (to_be_bytes w16 n)
two_bytes n = (omega arith, (omega arith, tt))

pub number_is_word : (n : ℕ) → IsWord (number_word n)
number_is_word n = digits_are_word _ _ (four_bytes n)

number_value : (n : ℕ) → n < 2 ^ 32 → digits_value 16 (number_word n) ≡ n
unfolding bytes_digits
number_value n low =
    let a = n / 16777216 % 256 in
    let b = n / 65536 % 256 in
    let c = n / 256 % 256 in
    let d = n % 256 in
    let whole : (((0 * 256 + a) * 256 + b) * 256 + c) * 256 + d ≡ n = omega (arith, low) in
    byte_value 0 a (byte_digits b ++ byte_digits c ++ byte_digits d) (omega arith)
    ∙ byte_value (0 * 256 + a) b (byte_digits c ++ byte_digits d) (omega arith)
    ∙ byte_value ((0 * 256 + a) * 256 + b) c (byte_digits d) (omega arith)
    ∙ byte_value (((0 * 256 + a) * 256 + b) * 256 + c) d [] (omega arith)
    ∙ whole

number_size : (n : ℕ) → length (number_word n) ≡ 8
unfolding bytes_digits
number_size n = refl

pub network_again : (n : ℕ) → 1 ≤ n → n ≤ last_network → hexadecimal_of 8 1 last_network (number_word n) ≡ Some n
network_again n least most =
    rw (le-leb (length (number_word n)) 8 (omega (arith, number_size n)))
    (number_is 16 1 last_network n (number_word n) (omega (arith, number_size n), bytes_all (to_be_bytes w32 n) (four_bytes n)) (number_value n (omega (arith, most))) least most)

pub route_again : (n : ℕ) → 1 ≤ n → n ≤ last_route → hexadecimal_of 8 1 last_route (number_word n) ≡ Some n
route_again n least most =
    rw (le-leb (length (number_word n)) 8 (omega (arith, number_size n)))
    (number_is 16 1 last_route n (number_word n) (omega (arith, number_size n), bytes_all (to_be_bytes w32 n) (four_bytes n)) (number_value n (omega (arith, most))) least most)

-- a byte that is no digit isn't there
pub number_without : (byte n : ℕ) → digit_value byte ≡ 36 → Without byte (number_word n)
number_without byte n other = each-digits (λ c. c ≢ byte) 16 (number_word n) (λ c low. other_byte byte c other low) (bytes_all (to_be_bytes w32 n) (four_bytes n))

socket_value : (n : ℕ) → n < 2 ^ 16 → digits_value 16 (socket_word n) ≡ n
unfolding bytes_digits
socket_value n low =
    let a = n / 256 % 256 in
    let b = n % 256 in
    let whole : (0 * 256 + a) * 256 + b ≡ n = omega (arith, low) in
    byte_value 0 a (byte_digits b) (omega arith) ∙ byte_value (0 * 256 + a) b [] (omega arith) ∙ whole

socket_size : (n : ℕ) → length (socket_word n) ≡ 4
unfolding bytes_digits
socket_size n = refl

pub socket_again : (n : ℕ) → 1 ≤ n → n < 2 ^ 16 → socket_of (socket_word n) ≡ Some n
socket_again n least low =
    rw (le-leb (length (socket_word n)) 4 (omega (arith, socket_size n)))
    (number_is 16 1 65535 n (socket_word n) (omega (arith, socket_size n), bytes_all (to_be_bytes w16 n) (two_bytes n)) (socket_value n low) least (omega (arith, low)))

-- a type of services may be 0
pub type_again : (n : ℕ) → n < 2 ^ 16 → hexadecimal_of 4 0 65535 (socket_word n) ≡ Some n
type_again n low =
    rw (le-leb (length (socket_word n)) 4 (omega (arith, socket_size n)))
    (number_is 16 0 65535 n (socket_word n) (omega (arith, socket_size n), bytes_all (to_be_bytes w16 n) (two_bytes n)) (socket_value n low) (omega arith) (omega (arith, low)))

-- of one type of services
pub one_type_again : (n : ℕ) → 1 ≤ n → n ≤ last_type → hexadecimal_of 4 1 last_type (socket_word n) ≡ Some n
one_type_again n least most =
    rw (le-leb (length (socket_word n)) 4 (omega (arith, socket_size n)))
    (number_is 16 1 last_type n (socket_word n) (omega (arith, socket_size n), bytes_all (to_be_bytes w16 n) (two_bytes n)) (socket_value n (omega (arith, most))) least most)

pub no_star : (n : ℕ) → bytes_eq (socket_word n) (codes "*") ≡ false
no_star n =
    elim (cases_Bool (bytes_eq (socket_word n) (codes "*"))) [
      | inl same ↦ absurd (omega (arith, socket_size n, ap length ((bytes_eq-Decides (socket_word n) (codes "*")).0 same)))
      | inr other ↦ other
    ]

pub socket_is_word : (n : ℕ) → IsWord (socket_word n)
socket_is_word n = digits_are_word _ _ (two_bytes n)

-- ---- nodes

six_bytes : (a b c d e f : ℕ) → a < 2 ^ 8 → b < 2 ^ 8 → c < 2 ^ 8 → d < 2 ^ 8 → e < 2 ^ 8 → f < 2 ^ 8
    → node_bytes_of (bytes_digits (a ∷ b ∷ c ∷ d ∷ e ∷ f ∷ [])) ≡ Some (a ∷ b ∷ c ∷ d ∷ e ∷ f ∷ [])
unfolding bytes_digits
six_bytes a b c d e f la lb lc ld le lf = rw (byte_again a la, byte_again b lb, byte_again c lc, byte_again d ld, byte_again e le, byte_again f lf) refl

six_items : (xs : List ℕ) → length xs ≡ 6 → xs ≡ get_or xs 0 0 ∷ get_or xs 1 0 ∷ get_or xs 2 0 ∷ get_or xs 3 0 ∷ get_or xs 4 0 ∷ get_or xs 5 0 ∷ []
six_items xs h = text_from_reads xs _ h (refl, (refl, (refl, (refl, (refl, (refl, tt))))))

pub node_bytes_again : (node : List ℕ) → AreNumbers 6 8 node → node_bytes_of (bytes_digits node) ≡ Some node
node_bytes_again node are =
    let all = six_items node are.0 in
    ap (λ l. node_bytes_of (bytes_digits l)) all ∙ six_bytes _ _ _ _ _ _ (are.1 0) (are.1 1) (are.1 2) (are.1 3) (are.1 4) (are.1 5) ∙ ap Some (sym all)

pub node_again : (node : List ℕ) → IsNode node → node_of (bytes_digits node) ≡ Some node
node_again node is = rw (node_bytes_again node is.0, is.1) refl

pub node_bytes_are_word : (node : List ℕ) → AreNumbers 6 8 node → IsWord (bytes_digits node)
node_bytes_are_word node are =
    let all = six_items node are.0 in
    let low : (k : ℕ) → get_or node k 0 < 256 = λ k. omega (arith, are.1 k) in
    rw all (digits_are_word _ _ (low 0, (low 1, (low 2, (low 3, (low 4, (low 5, tt)))))))

pub node_is_word : (node : List ℕ) → IsNode node → IsWord (bytes_digits node)
node_is_word node is = node_bytes_are_word node is.0

-- a byte that is no digit isn't there
pub node_bytes_without : (byte : ℕ) (node : List ℕ) → AreNumbers 6 8 node → digit_value byte ≡ 36 → Without byte (bytes_digits node)
node_bytes_without byte node are other =
    let all = six_items node are.0 in
    let low : (k : ℕ) → get_or node k 0 < 256 = λ k. omega (arith, are.1 k) in
    rw all (each-digits (λ c. c ≢ byte) 16 _ (λ c few. other_byte byte c other few) (bytes_all _ (low 0, (low 1, (low 2, (low 3, (low 4, (low 5, tt))))))))

-- ---- numbers a second

no_none : (r : ℕ) → r < 2 ^ 64 → bytes_eq (decimal r) (codes "none") ≡ false
no_none r fits =
    elim (cases_Bool (bytes_eq (decimal r) (codes "none"))) [
      | inl same ↦ absurd (no_digits (decimal r) (decimal_is_IsNumeral r fits).0.1 ((bytes_eq-Decides (decimal r) (codes "none")).0 same))
      | inr other ↦ other
    ]
  where
    no_digits : (ds : List ℕ) → AllDigits 10 ds → ds ≡ codes "none" → ⊥
    no_digits ds all e = (let these : AllDigits 10 (codes "none") = subst (AllDigits 10) e all in omega (arith, these.0))

pub rate_again : (r : ℕ) → r ≤ most_rate → rate_or_none (rate_word r) ≡ Some r
rate_again r most =
    elim (cases_eq r 0) [
      | inl none ↦ rw none refl
      | inr some ↦ rw (ne_eqb r 0 some, no_none r (omega (arith, most))) (number_again 1 most_rate r (omega (arith, most)) (omega (arith, some)) most)
    ]

pub rate_is_word : (r : ℕ) → r ≤ most_rate → IsWord (rate_word r)
rate_is_word r most =
    elim (cases_eq r 0) [
      | inl none ↦ rw none (none_is_word)
      | inr some ↦ rw (ne_eqb r 0 some) (decimal_is_word r (omega (arith, most)))
    ]
  where
    none_is_word : IsWord (codes "none")
    none_is_word = (omega arith, ((refl, refl), ((refl, refl), ((refl, refl), ((refl, refl), tt)))))
