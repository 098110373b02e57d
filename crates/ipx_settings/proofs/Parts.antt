use Rattle.std.proofs.Common.{◌≡◌, ℕ, suc, ◌+◌, ◌<◌, ◌≤◌, ◌==◌, Bool, true, false, not, List, [], ◌∷◌, length, get_or, take, drop, length-drop, ◌-◌, refl, sym, ap, subst, ◌∙◌, inl, inr, arith, Some, None, filter}
use Rattle.std.proofs.lemmas.Bool.{cases_Bool, cases_lt}
use Rattle.std.proofs.lemmas.List.{drop_all, take_all, length-take-le, drop-drop}
use Rattle.std.proofs.Math.Seq.{drop-cons}
use Rattle.std.proofs.lemmas.List.Quantifiers.{position-Some}
use Rattle.std.proofs.lemmas.List.Elements.{All-from_get_or}
use Rattle.std.proofs.lemmas.List.Splits.{slice_split-cons_yes, slice_split_first, slice_split_none}
use Rattle.std.proofs.lemmas.List.Sums.{passes_at_first, fails_before_first, prefix_len-le-length}
use Rattle.std.specs.List.{slice_split, position, position_or_len, before_first, after_first}
use Rattle.ipx_settings.specs.Words.{is_blank, words}

-- a part that isn't empty
abbrev pub has_bytes : List ℕ → Bool
has_bytes part = not (length part == 0)

pub keeps : (part : List ℕ) (parts : List (List ℕ)) → 0 < length part → filter has_bytes (part ∷ parts) ≡ part ∷ filter has_bytes parts
keeps part parts some = grind arith

-- a blank in front
skips : (b : ℕ) (text : List ℕ) → is_blank b ≡ true → words (b ∷ text) ≡ words text
skips b text blank = ap (filter has_bytes) (slice_split-cons_yes is_blank b text blank)

-- all blanks in front
skips_all : (text : List ℕ) → words (drop (position_or_len (λ b. not (is_blank b)) text) text) ≡ words text
skips_all [] = refl
skips_all (b ∷ text) =
    elim (cases_Bool (is_blank b)) [
      | inl blank ↦
          let next : 1 + position_or_len (λ x. not (is_blank x)) text ≡ suc (position_or_len (λ x. not (is_blank x)) text) = omega arith in
          rw (blank, next) (skips_all text)
      | inr other ↦
          let none : position_or_len (λ x. not (is_blank x)) (b ∷ text) ≡ 0 = rw other refl in
          ap (λ n. words (drop n (b ∷ text))) none
    ]

pub is_at : (p : ℕ → Bool) (xs : List ℕ) (i : ℕ) → position p xs ≡ Some i → (position_or_len p xs ≡ i) × (i < length xs)
is_at p xs i found = grind arith

pub is_past : (p : ℕ → Bool) (xs : List ℕ) → position p xs ≡ None → length xs ≤ position_or_len p xs
is_past p xs missed = grind arith

-- only blanks
pub no_words : (text : List ℕ) → position (λ b. not (is_blank b)) text ≡ None → words text ≡ []
no_words text missed =
    sym (skips_all text) ∙ ap words (drop_all _ text (is_past (λ b. not (is_blank b)) text missed))

-- the rest behind the first blank, with it or without it
rest_is : (text : List ℕ) → position_or_len is_blank text < length text
    → words (after_first is_blank text) ≡ words (drop (position_or_len is_blank text) text)
rest_is text below =
    let cell = drop-cons text (position_or_len is_blank text) 0 below in
    let next : position_or_len is_blank text + 1 ≡ suc (position_or_len is_blank text) = omega arith in
    let blank = passes_at_first is_blank text 0 below in
    ap (λ n. words (drop n text)) next
    ∙ sym (ap words cell ∙ skips (get_or text (position_or_len is_blank text) 0) (drop (suc (position_or_len is_blank text)) text) blank)

-- a text that begins with a word
cut : (text : List ℕ) → 0 < length text → 0 < position_or_len is_blank text
    → words text ≡ before_first is_blank text ∷ words (drop (position_or_len is_blank text) text)
cut text long some =
    elim (cases_lt (position_or_len is_blank text) (length text)) [
      | inl below ↦
          let front : 0 < length (before_first is_blank text) = omega (arith, length-take-le (position_or_len is_blank text) text) in
          ap (filter has_bytes) (slice_split_first is_blank text 0 below)
          ∙ keeps (before_first is_blank text) (slice_split is_blank (after_first is_blank text)) front
          ∙ ap (λ parts. before_first is_blank text ∷ parts) (rest_is text below)
      | inr beyond ↦
          let none = All-from_get_or (λ b. is_blank b ≡ false) text 0 (λ i low. fails_before_first is_blank text i 0 (omega arith)) in
          ap (filter has_bytes) (slice_split_none is_blank text none) ∙ keeps text [] (omega arith)
          ∙ rw (take_all (position_or_len is_blank text) text beyond, drop_all (position_or_len is_blank text) text beyond) refl
    ]

isnt : (b : Bool) → not b ≡ true → b ≡ false
isnt b e = grind arith

begun : (b : ℕ) (more : List ℕ) → is_blank b ≡ false
    → words (b ∷ more) ≡ before_first is_blank (b ∷ more) ∷ words (drop (position_or_len is_blank (b ∷ more)) (b ∷ more))
begun b more other =
    let some : 0 < position_or_len is_blank (b ∷ more) = rw other (omega arith) in
    cut (b ∷ more) (omega arith) some

-- a text whose first word begins at this place
pub a_word : (text found : List ℕ) (start : ℕ) → position (λ b. not (is_blank b)) text ≡ Some start → found ≡ drop start text
    → words text ≡ before_first is_blank found ∷ words (drop (position_or_len is_blank found) found)
a_word text found start at e =
    let place = is_at (λ b. not (is_blank b)) text start at in
    let same : drop (position_or_len (λ b. not (is_blank b)) text) text ≡ found = ap (λ n. drop n text) place.0 ∙ sym e in
    let cell = e ∙ drop-cons text start 0 place.1 in
    let other = isnt _ (position-Some (λ b. not (is_blank b)) text start 0 at).1 in
    sym (skips_all text) ∙ ap words same
    ∙ subst (λ (t : List ℕ). words t ≡ before_first is_blank t ∷ words (drop (position_or_len is_blank t) t)) (sym cell)
    (begun (get_or text start 0) (drop (suc start) text) other)

pub most_of : (text : List ℕ) → position_or_len is_blank text ≤ length text
most_of text = prefix_len-le-length (λ b. not (is_blank b)) text

-- where none follows
pub all_of : (p : ℕ → Bool) (text : List ℕ) → position p text ≡ None → length text ≡ position_or_len p text
all_of p text missed = omega (arith, is_past p text missed, prefix_len-le-length (λ b. not (p b)) text)

-- a text whose first byte is no blank has a word in front
begins : (b : ℕ) (more : List ℕ) → is_blank b ≡ false → 0 < position_or_len is_blank (b ∷ more)
begins b more other = rw other (omega arith)

-- a word from a place on
pub word_from : (text begun : List ℕ) (from blanks n : ℕ) → begun ≡ drop (from + blanks) text → n ≡ position_or_len is_blank begun
    → position (λ b. not (is_blank b)) (drop from text) ≡ Some blanks
    → words (drop from text) ≡ take (from + blanks + n - (from + blanks)) (drop (from + blanks) text) ∷ words (drop (from + blanks + n) text)
word_from text begun from blanks n e l at =
    let same : begun ≡ drop blanks (drop from text) = e ∙ sym (drop-drop blanks from text) in
    let behind : drop (position_or_len is_blank begun) begun ≡ drop (from + blanks + n) text =
    rw (sym l) (ap (drop n) e ∙ drop-drop n (from + blanks) text) in
    let front : take (position_or_len is_blank begun) begun ≡ take (from + blanks + n - (from + blanks)) (drop (from + blanks) text) =
    rw (sym l) (ap (take n) e ∙ ap (λ k. take k (drop (from + blanks) text)) (omega arith)) in
    a_word (drop from text) begun blanks at same ∙ ap (λ word. word ∷ words (drop (position_or_len is_blank begun) begun)) front
    ∙ ap (λ more. take (from + blanks + n - (from + blanks)) (drop (from + blanks) text) ∷ words more) behind

-- it has a byte or more, and lies within the text
pub word_placed : (text begun : List ℕ) (from blanks n : ℕ) → from ≤ length text → begun ≡ drop (from + blanks) text → n ≡ position_or_len is_blank begun
    → position (λ b. not (is_blank b)) (drop from text) ≡ Some blanks → (0 < n) × (from + blanks + n ≤ length text)
word_placed text begun from blanks n within e l at =
    let place = is_at (λ b. not (is_blank b)) (drop from text) blanks at in
    let same : begun ≡ drop blanks (drop from text) = e ∙ sym (drop-drop blanks from text) in
    let cell = same ∙ drop-cons (drop from text) blanks 0 place.1 in
    let other = isnt _ (position-Some (λ b. not (is_blank b)) (drop from text) blanks 0 at).1 in
    let some : 0 < position_or_len is_blank begun =
    subst (λ (t : List ℕ). 0 < position_or_len is_blank t) (sym cell) (begins (get_or (drop from text) blanks 0) (drop (suc blanks) (drop from text)) other) in
    let most : position_or_len is_blank begun ≤ length begun = most_of begun in
    let long : length begun ≡ length text - (from + blanks) = ap length e ∙ length-drop (from + blanks) text in
    let there : blanks < length text - from = subst (λ k. blanks < k) (length-drop from text) place.1 in
    (omega (arith, some, l), omega (arith, most, long, l, there, within))
