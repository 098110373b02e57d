-- How bytes are cut into lines.
use Rattle.std.proofs.Common.{◌≡◌, ◌⊎◌, ℕ, ◌+◌, Bool, true, false, List, [], ◌∷◌, ◌++◌, length, refl, sym, ap, ◌∙◌, inl, inr, arith, append_assoc, length-append, if◌then◌else◌}
use Rattle.std.proofs.lemmas.Bool.{cases_Bool, eqb-true, lt-ltb, ltb-true}
use Rattle.std.proofs.lemmas.List.Elements.{All-nil, All-cons, All-append}
use Rattle.std.proofs.lemmas.List.Splits.{slice_split_at, slice_split_none, slice_split-cons_yes, slice_split-cons_no}
use Rattle.std.specs.List.{onto_first, slice_split}
use Rattle.ipx_cmd.specs.inside.Leads.{IsOneLine, TakesLong}
use Rattle.ipx_cmd.specs.Lines.{counted, is_line_feed, is_long, line_feed, lines_by, longest_line}
use Rattle.ipx_cmd.specs.Playing.{Step, Transcript, by_lines, goes_on, line_does, transcript, wrong}
use Rattle.ipx_cmd.specs.declared.lines.fault.LineFault.TheVariants.{Long}

abbrev pub not_feed : ℕ → Type 0
not_feed = λ (byte : ℕ). is_line_feed byte ≡ false

-- there is always a first part
record Parts (bytes : List ℕ) : Type 0 where
  first : List ℕ
  more : List (List ℕ)
  is : slice_split is_line_feed bytes ≡ first ∷ more

parts : (bytes : List ℕ) → Parts bytes
parts [] = record { first = []; more = []; is = refl }
parts (byte ∷ bytes) =
    let p = parts bytes in
    elim (cases_Bool (is_line_feed byte)) [
      | inl feed ↦ record { first = []; more = slice_split is_line_feed bytes; is = slice_split-cons_yes is_line_feed byte bytes feed }
      | inr other ↦ record {
        first = byte ∷ p.first;
        more = p.more;
        is = slice_split-cons_no is_line_feed byte bytes other ∙ ap (λ x. onto_first byte x) p.is;
      }
    ]

-- bytes are one line, or have a first line feed
pub record AtFeed (bytes : List ℕ) : Type 0 where
  pub line : List ℕ
  pub rest : List ℕ
  pub is : bytes ≡ line ++ line_feed ∷ rest
  pub one : IsOneLine line

pub at_feed : (bytes : List ℕ) → IsOneLine bytes ⊎ AtFeed bytes
at_feed [] = inl (All-nil not_feed)
at_feed (byte ∷ bytes) = elim (cases_Bool (is_line_feed byte)) [
  | inl feed ↦ inr (record { line = []; rest = bytes; is = ap (λ b. b ∷ bytes) (eqb-true byte line_feed feed); one = All-nil not_feed })
  | inr other ↦ elim (at_feed bytes) [
    | inl one ↦ inl (All-cons not_feed byte bytes other one)
    | inr at ↦ inr (record { line = byte ∷ at.line; rest = at.rest; is = ap (λ x. byte ∷ x) at.is; one = All-cons not_feed byte at.line other at.one })
  ]
]

-- a line that a line feed ends stands before the lines behind it
lines_at : (counts : List ℕ → Bool) (line rest : List ℕ) → IsOneLine line → lines_by counts (line ++ line_feed ∷ rest) ≡ line ∷ lines_by counts rest
lines_at counts line rest one =
    let p = parts rest in
    ap (counted counts) (slice_split_at is_line_feed line line_feed rest one refl ∙ ap (λ x. line ∷ x) p.is) ∙ ap (λ x. line ∷ counted counts x) (sym p.is)

pub at_line : {S : Type 0} (acts : Step S) (counts : List ℕ → Bool) (state : S) (number : ℕ) (line rest : List ℕ) → IsOneLine line
    → by_lines acts counts state number (line ++ line_feed ∷ rest)
    ≡ goes_on number (line_does acts state line) (λ after. by_lines acts counts after (number + 1) rest)
at_line acts counts state number line rest one = ap (transcript acts state number) (lines_at counts line rest one)

-- a line that no line feed ends
pub at_last : {S : Type 0} (acts : Step S) (counts : List ℕ → Bool) (state : S) (number : ℕ) (line : List ℕ) → IsOneLine line
    → by_lines acts counts state number line ≡ transcript acts state number (if counts line then line ∷ [] else [])
at_last acts counts state number line one = ap (λ x. transcript acts state number (counted counts x)) (slice_split_none is_line_feed line one)

pub long_more : (line more : List ℕ) → is_long line ≡ true → is_long (line ++ more) ≡ true
long_more line more long = lt-ltb longest_line (length (line ++ more)) (omega (arith, ltb-true longest_line (length line) long, length-append line more))

does_long : {S : Type 0} (acts : Step S) (state : S) (number : ℕ) (line : List ℕ) (further : S → Transcript) → is_long line ≡ true
    → goes_on number (line_does acts state line) further ≡ wrong number Long
does_long acts state number line further long = rw long refl

-- a line that is too long is wrong, whatever follows
pub at_long : {S : Type 0} (acts : Step S) (counts : List ℕ → Bool) (state : S) (number : ℕ) (line more : List ℕ) → TakesLong counts → IsOneLine line → is_long line ≡ true
    → by_lines acts counts state number (line ++ more) ≡ wrong number Long
at_long acts counts state number line more takes one long = elim (at_feed more) [
  | inl last ↦ at_last acts counts state number (line ++ more) (All-append not_feed line more one last)
      ∙ ap (λ (b : Bool). transcript acts state number (if b then (line ++ more) ∷ [] else [])) (takes (line ++ more) (long_more line more long))
      ∙ does_long acts state number (line ++ more) (λ after. transcript acts after (number + 1) []) (long_more line more long)
  | inr at ↦ ap (λ (x : List ℕ). by_lines acts counts state number (line ++ x)) at.is
      ∙ ap (λ (x : List ℕ). by_lines acts counts state number x) (sym (append_assoc line at.line (line_feed ∷ at.rest)))
      ∙ at_line acts counts state number (line ++ at.line) at.rest (All-append not_feed line at.line one at.one)
      ∙ does_long acts state number (line ++ at.line) (λ after. by_lines acts counts after (number + 1) at.rest) (long_more line at.line long)
]
