-- The words of a line.
use Rattle.std.specs.Prelude.{ℕ, Bool, ◌==◌, ◌&&◌, ◌||◌, nat_le, ◌-◌, List, length, take, drop, filter, not}
use Rattle.std.specs.List.{slice_split, before_first}
use Rattle.ipx_settings.specs.declared.words.Span.{Span}

-- a blank stands between words: a space, a tab, or an end of a line or a page
abbrev pub is_blank : ℕ → Bool
is_blank byte = (byte == 32) || (nat_le 9 byte && nat_le byte 13)

-- a remark begins
abbrev pub is_mark : ℕ → Bool
is_mark byte = byte == 35

-- what stands before a remark
abbrev pub before_mark : List ℕ → List ℕ
before_mark line = before_first is_mark line

-- the words of a text: what stands between its blanks, the empty parts left out
abbrev pub words : List ℕ → List (List ℕ)
words text = filter (λ part. not (length part == 0)) (slice_split is_blank text)

-- the word that stands there
abbrev pub word_in : List ℕ → Span → List ℕ
word_in text span = take (span.end - span.start) (drop span.start text)

-- the most words of a line
abbrev pub most_words : ℕ
most_words = 32
