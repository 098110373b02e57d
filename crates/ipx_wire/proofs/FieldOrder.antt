-- Fields of names in the order of their bytes, of which eight are compared at once.
use Rattle.std.proofs.Common.{◌≡◌, ◌≢◌, ℕ, zero, suc, ◌+◌, ◌*◌, ◌≤◌, ◌<◌, List, [], ◌∷◌, ◌++◌, length, take, drop, replicate, refl, sym, ap, ap₂, ◌∙◌, arith, subst, inl, inr, take-add, take_all}
use Rattle.std.specs.Cmp.{nat_cmp_is}
use Rattle.std.specs.Int.{from_be_bytes, w64}
use Rattle.std.specs.List.{AllByRecursion}
use Rattle.std.specs.Ordering.{nat_cmp, ordering_then}
use Rattle.std.specs.declared.cmp.Ordering.{Ordering}
use Rattle.std.specs.declared.cmp.Ordering.TheVariants.{Less, Equal, Greater}
use Rattle.std.proofs.lemmas.Bool.{cases_eq, cases_lt}
use Rattle.std.proofs.lemmas.List.{take-append-drop}
use Rattle.std.proofs.lemmas.Nat.{be_bytes_8}
use Rattle.ipx_wire.specs.Name.{IsServiceName, IsKeptName, name_field, name_order}
use Rattle.ipx_wire.specs.Piece.{piece, IsBytes}
use Rattle.ipx_wire.proofs.NameOrder.{is_equal, first_equal}
use Rattle.ipx_wire.proofs.Pieces.{length-piece, are_bytes}

-- the number in bytes behind a number, the highest first
abbrev pub high_first : ℕ → List ℕ → ℕ
high_first n [] = n
high_first n (x ∷ xs) = high_first (n * 256 + x) xs

-- a smaller number in front stays smaller, whatever bytes stand behind
stays_less : (n m : ℕ) (xs ys : List ℕ) → n < m → length xs ≡ length ys → AllByRecursion (λ x. x < 256) xs → high_first n xs < high_first m ys
stays_less n m [] [] less same bytes = less
stays_less n m [] (y ∷ ys) less same bytes = absurd (omega (arith, same))
stays_less n m (x ∷ xs) [] less same bytes = absurd (omega (arith, same))
stays_less n m (x ∷ xs) (y ∷ ys) less same bytes =
    stays_less (n * 256 + x) (m * 256 + y) xs ys (omega (arith, less, bytes.0)) (omega (arith, same)) bytes.1

-- bytes that make different numbers are in the order of these
pub decided : (n : ℕ) (xs ys a b : List ℕ) → length xs ≡ length ys → AllByRecursion (λ x. x < 256) xs → AllByRecursion (λ x. x < 256) ys
    → high_first n xs ≢ high_first n ys → name_order (xs ++ a) (ys ++ b) ≡ nat_cmp (high_first n xs) (high_first n ys)
decided n [] [] a b same one two differ = absurd (differ refl)
decided n [] (y ∷ ys) a b same one two differ = absurd (omega (arith, same))
decided n (x ∷ xs) [] a b same one two differ = absurd (omega (arith, same))
decided n (x ∷ xs) (y ∷ ys) a b same one two differ =
    elim (cases_eq x y) [
      | inl e ↦
          subst (λ (z : ℕ). high_first n (x ∷ xs) ≢ high_first n (z ∷ ys) → name_order (x ∷ (xs ++ a)) (z ∷ (ys ++ b)) ≡ nat_cmp (high_first n (x ∷ xs)) (high_first n (z ∷ ys))) e
          (λ still. first_equal x (xs ++ a) (ys ++ b) ∙ decided (n * 256 + x) xs ys a b (omega (arith, same)) one.1 two.1 still) differ
      | inr other ↦ elim (cases_lt x y) [
        | inl less ↦
            ap (λ (o : Ordering). ordering_then o (name_order (xs ++ a) (ys ++ b))) (sym (nat_cmp_is x y Less less))
            ∙ nat_cmp_is (high_first n (x ∷ xs)) (high_first n (y ∷ ys)) Less (stays_less (n * 256 + x) (n * 256 + y) xs ys (omega (arith, less)) (omega (arith, same)) one.1)
        | inr more ↦
            let above : y < x = omega (arith, more, other) in
            ap (λ (o : Ordering). ordering_then o (name_order (xs ++ a) (ys ++ b))) (sym (nat_cmp_is x y Greater above))
            ∙ nat_cmp_is (high_first n (x ∷ xs)) (high_first n (y ∷ ys)) Greater (stays_less (n * 256 + y) (n * 256 + x) ys xs (omega (arith, above)) (omega (arith, same)) two.1)
      ]
    ]

-- the number in eight bytes
pub in_eight : (bs : List ℕ) → length bs ≡ 8 → from_be_bytes w64 bs ≡ high_first 0 bs
in_eight [] size = absurd (omega (arith, size))
in_eight (a ∷ []) size = absurd (omega (arith, size))
in_eight (a ∷ b ∷ []) size = absurd (omega (arith, size))
in_eight (a ∷ b ∷ c ∷ []) size = absurd (omega (arith, size))
in_eight (a ∷ b ∷ c ∷ d ∷ []) size = absurd (omega (arith, size))
in_eight (a ∷ b ∷ c ∷ d ∷ e ∷ []) size = absurd (omega (arith, size))
in_eight (a ∷ b ∷ c ∷ d ∷ e ∷ f ∷ []) size = absurd (omega (arith, size))
in_eight (a ∷ b ∷ c ∷ d ∷ e ∷ f ∷ g ∷ []) size = absurd (omega (arith, size))
in_eight (a ∷ b ∷ c ∷ d ∷ e ∷ f ∷ g ∷ h ∷ []) size = omega arith
in_eight (a ∷ b ∷ c ∷ d ∷ e ∷ f ∷ g ∷ h ∷ i ∷ rest) size = absurd (omega (arith, size))

-- zeros behind two names, up to one length, leave their order
padded : (a b : List ℕ) (n m : ℕ) → length a + n ≡ length b + m → AllByRecursion (λ byte. 0 < byte) a → AllByRecursion (λ byte. 0 < byte) b
    → name_order (a ++ replicate n 0) (b ++ replicate m 0) ≡ name_order a b
padded [] [] n m same one two = grind (arith, is_equal)
padded [] (y ∷ b) zero m same one two = absurd (omega (arith, same))
padded [] (y ∷ b) (suc n) m same one two = grind arith
padded (x ∷ a) [] n zero same one two = absurd (omega (arith, same))
padded (x ∷ a) [] n (suc m) same one two = grind arith
padded (x ∷ a) (y ∷ b) n m same one two =
    ap (ordering_then (nat_cmp x y)) (padded a b n m (omega (arith, same)) one.1 two.1)

-- names are in the order of their fields
field_order : (a b : List ℕ) → IsServiceName a → IsServiceName b → name_order (name_field a) (name_field b) ≡ name_order a b
unfolding name_field
field_order a b one two = grind (arith, padded)

-- and so are the fields that are kept
pub kept_order : (f g a b : List ℕ) (n m : ℕ) → IsKeptName f a n → IsKeptName g b m → name_order f g ≡ name_order a b
kept_order f g a b n m one two = grind (arith, field_order)

-- equal bytes in front leave it to those behind
same_front : (front a b : List ℕ) → name_order (front ++ a) (front ++ b) ≡ name_order a b
same_front [] a b = refl
same_front (x ∷ front) a b = first_equal x (front ++ a) (front ++ b) ∙ same_front front a b

all_bytes : (bs : List ℕ) → IsBytes bs → AllByRecursion (λ x. x < 256) bs
all_bytes [] are = tt
all_bytes (b ∷ bs) are = (are 0, all_bytes bs (λ i. are (suc i)))

-- a list is what stands in front of a place, eight bytes there, and the rest
around_eight : (bs : List ℕ) (place : ℕ) → take place bs ++ (piece bs place 8 ++ drop 8 (drop place bs)) ≡ bs
around_eight bs place = grind (arith, take-append-drop)

-- the number in eight bytes at a place
number_at : (bs : List ℕ) (place x : ℕ) → place + 8 ≤ length bs → x ≡ from_be_bytes w64 (piece bs place 8) → x ≡ high_first 0 (piece bs place 8)
number_at bs place x room is = is ∙ in_eight (piece bs place 8) (length-piece bs place 8 room)

-- where the bytes in front are equal and the next eight make different numbers, these decide
pub word_decides : (a b : List ℕ) (place x y : ℕ) → place + 8 ≤ length a → place + 8 ≤ length b → IsBytes a → IsBytes b → take place a ≡ take place b
    → x ≡ from_be_bytes w64 (piece a place 8) → y ≡ from_be_bytes w64 (piece b place 8) → x ≢ y → name_order a b ≡ nat_cmp x y
word_decides a b place x y room_a room_b are_a are_b same is_x is_y differ =
    let p = piece a place 8 in
    let q = piece b place 8 in
    let one = number_at a place x room_a is_x in
    let two = number_at b place y room_b is_y in
    let rest_a = p ++ drop 8 (drop place a) in
    let rest_b = q ++ drop 8 (drop place b) in
    ap₂ name_order (sym (around_eight a place)) (sym (around_eight b place) ∙ ap (λ (z : List ℕ). z ++ rest_b) (sym same))
    ∙ same_front (take place a) rest_a rest_b
    ∙ decided 0 p q (drop 8 (drop place a)) (drop 8 (drop place b)) (length-piece a place 8 room_a ∙ sym (length-piece b place 8 room_b))
    (all_bytes p (are_bytes a place 8 are_a)) (all_bytes q (are_bytes b place 8 are_b)) (λ e. differ (one ∙ e ∙ sym two))
    ∙ ap₂ nat_cmp (sym one) (sym two)

-- eight bytes more are equal where they make one number
pub word_more : (a b : List ℕ) (place x : ℕ) → place + 8 ≤ length a → place + 8 ≤ length b → IsBytes a → IsBytes b → take place a ≡ take place b
    → x ≡ from_be_bytes w64 (piece a place 8) → x ≡ from_be_bytes w64 (piece b place 8) → take (place + 8) a ≡ take (place + 8) b
word_more a b place x room_a room_b are_a are_b same one two =
    let p = be_bytes_8 (piece a place 8) x (length-piece a place 8 room_a) (are_bytes a place 8 are_a) one in
    let q = be_bytes_8 (piece b place 8) x (length-piece b place 8 room_b) (are_bytes b place 8 are_b) two in
    take-add place 8 a ∙ ap₂ (λ (s t : List ℕ). s ++ t) same (sym p ∙ q) ∙ sym (take-add place 8 b)

-- fields whose 48 bytes are equal
pub all_equal : (a b : List ℕ) → length a ≡ 48 → length b ≡ 48 → take 48 a ≡ take 48 b → name_order a b ≡ Equal
all_equal a b size_a size_b same =
    is_equal a b (sym (take_all 48 a (omega (arith, size_a))) ∙ same ∙ take_all 48 b (omega (arith, size_b)))
