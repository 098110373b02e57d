-- What the words after the program's name ask for.
use Rattle.std.specs.Prelude.{◌≡◌, ◌⊎◌, ◌==◌, ℕ, Bool, true, not, List, [], ◌∷◌, Option, Some, None, Result, MatchResult, codes, option_map, string_bytes}
use Rattle.clap.specs.Words.{App, new_app, new_rule, with_rule, with_subcommand}
use Rattle.ipx_cmd.specs.declared.chosen.Chosen.{Chosen}
use Rattle.ipx_cmd.specs.declared.chosen.ChooseFault.{ChooseFault}
use Rattle.ipx_cmd.specs.declared.chosen.ChooseFault.TheVariants.{Memory}
use Rattle.ipx_cmd.specs.declared.chosen.Run.{Run}
use Rattle.ipx_cmd.specs.declared.chosen.Run.TheVariants.{Replay, Internet, Decode}

-- a name that cannot be taken for an option: it does not begin with a hyphen, or is a hyphen alone
abbrev pub is_plain : List ℕ → Bool
is_plain [] = true
is_plain (first ∷ []) = true
is_plain (first ∷ more) = not (first == 45)

-- the first word of a run
abbrev pub word_of : Run → List ℕ
word_of Replay = codes "replay"
word_of Internet = codes "internet"
word_of Decode = codes "decode"

-- the words ask for a run: its word alone, that and a FILE of a plain name, or that, `--` and a FILE of any name
abbrev pub IsAsked : Run → List (List ℕ) → Option (List ℕ) → Type 0
IsAsked run words None = words ≡ word_of run ∷ []
IsAsked run words (Some file) =
    ((words ≡ word_of run ∷ file ∷ []) × (is_plain file ≡ true)) ⊎ (words ≡ word_of run ∷ codes "--" ∷ file ∷ [])

-- the answer is the run on this file, or on standard input, or out of memory
abbrev pub Chooses : Run → Option (List ℕ) → Result Chosen ChooseFault → Type 0
Chooses run file r = MatchResult r
    (λ chosen. (chosen.run ≡ run) × (option_map string_bytes chosen.file ≡ file))
    (λ fault. fault ≡ Memory)

-- a command that may name a file, in the parser's words
abbrev pub file_command : List ℕ → App
file_command word = with_rule (new_app word) (new_rule (codes "file"))

-- the program's command line
abbrev pub command_line : App
command_line =
    let top = new_app (codes "ipxr") in
    let bare : App = record top { top = record top.top { no_binary_name = true; subcommand_required = true } } in
    let scripts = with_subcommand (with_subcommand bare (file_command (word_of Replay)).top) (file_command (word_of Internet)).top in
    with_subcommand scripts (file_command (word_of Decode)).top
