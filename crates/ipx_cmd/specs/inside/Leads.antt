-- What bytes of a script lead to, whatever follows them.
use Rattle.std.specs.Prelude.{◌≡◌, ℕ, ◌≤◌, Bool, true, false, List, ◌++◌, length}
use Rattle.std.specs.List.{All}
use Rattle.ipx_cmd.specs.Decoded.{IsFront}
use Rattle.ipx_cmd.specs.Lines.{is_line_feed, is_long, longest_line}
use Rattle.ipx_cmd.specs.Playing.{Step, behind, by_lines}
use Rattle.ipx_cmd.specs.declared.ended.Ended.TheVariants.{BadInput}

-- a test of a script's last line that a line which is too long passes
abbrev pub TakesLong : (List ℕ → Bool) → Type 0
TakesLong counts = (line : List ℕ) → is_long line ≡ true → counts line ≡ true

-- no byte is a line feed
abbrev pub IsOneLine : List ℕ → Type 0
IsOneLine bytes = All (λ byte. is_line_feed byte ≡ false) bytes

-- a line that isn't at its end yet
pub record IsPending (bytes : List ℕ) : Type 0 where
  pub one : IsOneLine bytes
  pub short : length bytes ≤ longest_line

-- bytes say a text and lead to another state, in the line of this number, of which these bytes are pending
pub record Leads {S : Type 0} (acts : Step S) (state : S) (number : ℕ) (bytes said : List ℕ) (after : S) (later : ℕ) (pending : List ℕ) : Type 0 where
  pub is : (counts : List ℕ → Bool) → TakesLong counts → (more : List ℕ)
      → by_lines acts counts state number (bytes ++ more) ≡ behind said (by_lines acts counts after later (pending ++ more))
  pub line : IsPending pending

-- the text ends at a line of these bytes that is wrong
pub record Ends {S : Type 0} (acts : Step S) (state : S) (number : ℕ) (bytes said : List ℕ) : Type 0 where
  pub is : (counts : List ℕ → Bool) → TakesLong counts → (more : List ℕ)
      → by_lines acts counts state number (bytes ++ more) ≡ record { text = said; ended = BadInput }

-- the text of these bytes begins with this one
pub record Begins {S : Type 0} (acts : Step S) (state : S) (number : ℕ) (bytes said : List ℕ) : Type 0 where
  pub is : (counts : List ℕ → Bool) → TakesLong counts → (more : List ℕ)
      → IsFront said (by_lines acts counts state number (bytes ++ more)).text
