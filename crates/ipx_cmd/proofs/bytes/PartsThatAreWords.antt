use Rattle.std.proofs.Common.{◌≡◌, ℕ, suc, ◌+◌, ◌<◌, ◌≤◌, ◌==◌, Bool, true, false, not, List, [], ◌∷◌, length, get_or, drop, refl, sym, ap, subst, ◌∙◌, inl, inr, arith, Some, None, filter}
use Rattle.std.proofs.lemmas.Bool.{cases_Bool, cases_lt}
use Rattle.std.proofs.lemmas.List.{drop_all, take_all, length-take-le}
use Rattle.std.proofs.Math.Seq.{drop-cons}
use Rattle.std.proofs.lemmas.List.Quantifiers.{position-Some}
use Rattle.std.proofs.lemmas.List.Elements.{All-from_get_or}
use Rattle.std.proofs.lemmas.List.Splits.{slice_split-cons_yes, slice_split_first, slice_split_none}
use Rattle.std.proofs.lemmas.List.Sums.{passes_at_first, fails_before_first}
use Rattle.std.specs.List.{slice_split, position, position_or_len, before_first, after_first}
use Rattle.std.specs.Option.{option_map}
use Rattle.ipx_cmd.specs.Words.{is_blank, words, only_one, only_two}

-- whether a part is a word
abbrev is_word : List ℕ → Bool
is_word part = not (length part == 0)

-- a part that isn't empty is kept
kept : (part : List ℕ) (parts : List (List ℕ)) → 0 < length part → filter is_word (part ∷ parts) ≡ part ∷ filter is_word parts
kept part parts some = grind arith

-- a blank in front divides no word
words-blank : (b : ℕ) (line : List ℕ) → is_blank b ≡ true → words (b ∷ line) ≡ words line
words-blank b line blank = ap (filter is_word) (slice_split-cons_yes is_blank b line blank)

-- nor do many
words-blanks : (line : List ℕ) → words (drop (position_or_len (λ b. not (is_blank b)) line) line) ≡ words line
words-blanks [] = refl
words-blanks (b ∷ line) =
    elim (cases_Bool (is_blank b)) [
      | inl blank ↦
          let next : 1 + position_or_len (λ x. not (is_blank x)) line ≡ suc (position_or_len (λ x. not (is_blank x)) line) = omega arith in
          rw (blank, next) (words-blanks line)
      | inr other ↦
          let none : position_or_len (λ x. not (is_blank x)) (b ∷ line) ≡ 0 = rw other refl in
          ap (λ n. words (drop n (b ∷ line))) none
    ]

-- where an item that passes stands first
position_found : (p : ℕ → Bool) (xs : List ℕ) (i : ℕ) → position p xs ≡ Some i → (position_or_len p xs ≡ i) × (i < length xs)
position_found p xs i found = grind arith

-- where none passes
position_missed : (p : ℕ → Bool) (xs : List ℕ) → position p xs ≡ None → length xs ≤ position_or_len p xs
position_missed p xs missed = grind arith

-- only blanks are no words
pub words-none : (line : List ℕ) → position (λ b. not (is_blank b)) line ≡ None → words line ≡ []
words-none line missed =
    sym (words-blanks line) ∙ ap words (drop_all _ line (position_missed (λ b. not (is_blank b)) line missed))

-- a text that begins with no blank is a word and what follows it
words-cut : (text : List ℕ) → 0 < length text → 0 < position_or_len is_blank text
    → words text ≡ before_first is_blank text ∷ words (drop (position_or_len is_blank text) text)
words-cut text long some =
    elim (cases_lt (position_or_len is_blank text) (length text)) [
      | inl below ↦
          let first : 0 < length (before_first is_blank text) = omega (arith, length-take-le (position_or_len is_blank text) text) in
          let behind = drop-cons text (position_or_len is_blank text) 0 below in
          let rest = ap words behind ∙ words-blank (get_or text (position_or_len is_blank text) 0) (drop (suc (position_or_len is_blank text)) text) (passes_at_first is_blank text 0 below) in
          let after : words (after_first is_blank text) ≡ words (drop (suc (position_or_len is_blank text)) text) =
          let next : position_or_len is_blank text + 1 ≡ suc (position_or_len is_blank text) = omega arith in
          ap (λ n. words (drop n text)) next in
          ap (filter is_word) (slice_split_first is_blank text 0 below) ∙ kept (before_first is_blank text) (slice_split is_blank (after_first is_blank text)) first
          ∙ ap (λ parts. before_first is_blank text ∷ parts) (after ∙ sym rest)
      | inr beyond ↦
          let none = All-from_get_or (λ b. is_blank b ≡ false) text 0 (λ i low. fails_before_first is_blank text i 0 (omega arith)) in
          let whole = take_all (position_or_len is_blank text) text beyond in
          ap (filter is_word) (slice_split_none is_blank text none) ∙ kept text [] (omega arith)
          ∙ rw (whole, drop_all (position_or_len is_blank text) text beyond) refl
    ]

-- what is not true
flipped : (b : Bool) → not b ≡ true → b ≡ false
flipped b e = grind arith

-- a text whose first byte is no blank
words-begun : (b : ℕ) (rest : List ℕ) → is_blank b ≡ false
    → words (b ∷ rest) ≡ before_first is_blank (b ∷ rest) ∷ words (drop (position_or_len is_blank (b ∷ rest)) (b ∷ rest))
words-begun b rest other =
    let some : 0 < position_or_len is_blank (b ∷ rest) = rw other (omega arith) in
    words-cut (b ∷ rest) (omega arith) some

-- a line whose words begin at this place
pub words-next : (line text : List ℕ) (start : ℕ) → position (λ b. not (is_blank b)) line ≡ Some start → text ≡ drop start line
    → words line ≡ before_first is_blank text ∷ words (drop (position_or_len is_blank text) text)
words-next line text start found e =
    let place = position_found (λ b. not (is_blank b)) line start found in
    let at : drop (position_or_len (λ b. not (is_blank b)) line) line ≡ text = ap (λ n. drop n line) place.0 ∙ sym e in
    let begins = e ∙ drop-cons line start 0 place.1 in
    let other = flipped _ (position-Some (λ b. not (is_blank b)) line start 0 found).1 in
    sym (words-blanks line) ∙ ap words at
    ∙ subst (λ (t : List ℕ). words t ≡ before_first is_blank t ∷ words (drop (position_or_len is_blank t) t)) (sym begins)
    (words-begun (get_or line start 0) (drop (suc start) line) other)

-- one item and others
pub only_two-cons : {X : Type 0} (a : X) (more : List X) → only_two (a ∷ more) ≡ option_map (λ b. (a, b)) (only_one more)
only_two-cons a more = grind arith
