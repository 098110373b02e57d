use Rattle.std.proofs.Common.{◌≡◌, ℕ, zero, suc, false, List, [], ◌∷◌, length, refl, sym, ap, ◌∙◌, arith, filter}
use Rattle.std.proofs.lemmas.List.{take_all}
use Rattle.std.proofs.lemmas.List.Splits.{slice_split_at, slice_split_none}
use Rattle.std.specs.List.{All, AllByRecursion, slice_split, position_or_len}
use Rattle.ipx_settings.specs.Right.{IsInWord, IsWord}
use Rattle.ipx_settings.specs.Words.{is_blank, is_mark, before_mark, words}
use Rattle.ipx_settings.specs.WritingLinks.{spaced}
use Rattle.ipx_settings.proofs.Parts.{has_bytes, keeps}
use Rattle.ipx_settings.proofs.Without.{each-append}

no_blanks : (word : List ℕ) → AllByRecursion IsInWord word → All (λ c. is_blank c ≡ false) word
no_blanks [] each k d low = absurd (omega (arith, low))
no_blanks (c ∷ word) each zero d low = each.0.0
no_blanks (c ∷ word) each (suc k) d low = no_blanks word each.1 k d (omega (arith, low))

-- words with blanks between them are just these words
pub words_again : (ws : List (List ℕ)) → AllByRecursion IsWord ws → words (spaced ws) ≡ ws
words_again [] are = refl
words_again (w ∷ []) are = ap (filter has_bytes) (slice_split_none is_blank w (no_blanks w are.0.1)) ∙ keeps w [] are.0.0
words_again (w ∷ v ∷ more) are =
    ap (filter has_bytes) (slice_split_at is_blank w 32 (spaced (v ∷ more)) (no_blanks w are.0.1) refl)
    ∙ keeps w (slice_split is_blank (spaced (v ∷ more))) are.0.0 ∙ ap (λ l. w ∷ l) (words_again (v ∷ more) are.1)

word_marks : (word : List ℕ) → AllByRecursion IsInWord word → AllByRecursion (λ c. is_mark c ≡ false) word
word_marks [] each = tt
word_marks (c ∷ word) each = (each.0.1, word_marks word each.1)

no_marks : (ws : List (List ℕ)) → AllByRecursion IsWord ws → AllByRecursion (λ c. is_mark c ≡ false) (spaced ws)
no_marks [] are = tt
no_marks (w ∷ []) are = word_marks w are.0.1
no_marks (w ∷ v ∷ more) are = each-append (λ c. is_mark c ≡ false) w (32 ∷ spaced (v ∷ more)) (word_marks w are.0.1) (refl, no_marks (v ∷ more) are.1)

marked_nowhere : (text : List ℕ) → AllByRecursion (λ c. is_mark c ≡ false) text → position_or_len is_mark text ≡ length text
marked_nowhere [] each = refl
marked_nowhere (c ∷ text) each = rw (each.0, marked_nowhere text each.1) (omega arith)

pub before_again : (ws : List (List ℕ)) → AllByRecursion IsWord ws → before_mark (spaced ws) ≡ spaced ws
before_again ws are = take_all (position_or_len is_mark (spaced ws)) (spaced ws) (omega (arith, marked_nowhere (spaced ws) (no_marks ws are)))

-- two lists of words with one text are one list
pub words_once : (vs ws : List (List ℕ)) → AllByRecursion IsWord vs → AllByRecursion IsWord ws → spaced vs ≡ spaced ws → vs ≡ ws
words_once vs ws are also same = sym (words_again vs are) ∙ ap words same ∙ words_again ws also
