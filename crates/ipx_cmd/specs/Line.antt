-- What the lines of every script have in common.
use Rattle.std.specs.Prelude.{◌≡◌, ℕ, nat_eq, if◌then◌else◌, List, [], ◌∷◌, codes, Option, Some, None, Result, Ok, Err}
use Rattle.std.specs.List.{list_all, starts_with}
use Rattle.ipx_cmd.specs.declared.ended.RunFault.TheVariants.{Memory}
use Rattle.ipx_cmd.specs.declared.lines.halt.Halt.{Halt}
use Rattle.ipx_cmd.specs.declared.lines.halt.Halt.TheVariants.{Line, Run}
use Rattle.ipx_cmd.specs.declared.lines.fault.LineFault.{LineFault}
use Rattle.ipx_cmd.specs.declared.lines.fault.LineFault.TheVariants.{Text, Words}
use Rattle.ipx_cmd.specs.Words.{is_text_byte, words}

-- what follows, where nothing was wrong so far
infixl 10 ◌>>=◌
abbrev pub ◌>>=◌ : {A B : Type 0} → Result A LineFault → (A → Result B LineFault) → Result B LineFault
Ok a >>= next = next a
Err fault >>= next = Err fault

-- what is there, or this fault
abbrev pub or_fault : {A : Type 0} → LineFault → Option A → Result A LineFault
or_fault fault (Some a) = Ok a
or_fault fault None = Err fault

-- the words of a line; a comment has none; of any other line all bytes are text
abbrev pub line_words : List ℕ → Result (List (List ℕ)) LineFault
line_words line =
    if starts_with nat_eq line (codes "#") then Ok []
    else if list_all is_text_byte line then Ok (words line)
    else Err Text

-- nothing follows the first word
abbrev pub no_more : List (List ℕ) → Result (Unit {0}) LineFault
no_more [] = Ok tt
no_more (word ∷ more) = Err Words

-- an answer, seen in this way, is what was meant
abbrev pub Answers : {A B : Type 0} → (A → B) → Result A LineFault → Result B LineFault → Type 0
Answers seen (Ok a) meant = meant ≡ Ok (seen a)
Answers seen (Err fault) meant = meant ≡ Err fault

-- the same, where the run may be given up: out of memory
abbrev pub AnswersInMemory : {A B : Type 0} → (A → B) → Result A Halt → Result B LineFault → Type 0
AnswersInMemory seen (Ok a) meant = meant ≡ Ok (seen a)
AnswersInMemory seen (Err (Line fault)) meant = meant ≡ Err fault
AnswersInMemory seen (Err (Run why)) meant = why ≡ Memory

-- the line is wrong in that way, or the run is given up: out of memory
abbrev pub Stops : {B : Type 0} → Result B LineFault → Halt → Type 0
Stops meant (Line fault) = meant ≡ Err fault
Stops meant (Run why) = why ≡ Memory
