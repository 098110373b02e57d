-- Where a line names a port, another port may be named.
use Rattle.std.proofs.Common.{◌≡◌, ℕ, ◌<◌, true, false, Bool, if◌then◌else◌, List, [], ◌∷◌, codes, refl, sym, ap, Option, None, Some, Result, Ok, Err, arith}
use Rattle.std.proofs.lemmas.Bool.{true≢false}
use Rattle.std.specs.Str.{bytes_eq}
use Rattle.ipx_cmd.specs.CommandMeaning.{CommandMeaning, NextPort, Starts, Stops, next_port}
use Rattle.ipx_cmd.specs.Line.{◌>>=◌, no_more, line_words}
use Rattle.ipx_cmd.specs.Script.{line_meaning, words_meaning, command_meaning, port_allowed, count_meaning, second_meaning, in_meaning, alone, later_meaning}
use Rattle.ipx_cmd.specs.declared.lines.command.NamedPort.{NamedPort}
use Rattle.ipx_cmd.specs.declared.lines.command.Stage.{Stage}
use Rattle.ipx_cmd.specs.declared.lines.fault.LineFault.{LineFault}

abbrev is_next : CommandMeaning → Bool
is_next (NextPort values) = true
is_next i = false

abbrev names : Result CommandMeaning LineFault → Bool
names (Ok i) = is_next i
names (Err fault) = false

abbrev names_some : Result (Option CommandMeaning) LineFault → Bool
names_some (Ok (Some i)) = is_next i
names_some (Ok None) = false
names_some (Err fault) = false

bind_never : {A : Type 0} (x : Result A LineFault) (next : A → Result CommandMeaning LineFault) → ((a : A) → names (next a) ≡ false) → names (x >>= next) ≡ false
bind_never x next never = grind arith

if_never : (b : Bool) (x y : Result CommandMeaning LineFault) → names x ≡ false → names y ≡ false → names (if b then x else y) ≡ false
if_never b x y one other = grind arith

second_never : (arguments : List (List ℕ)) → names (second_meaning arguments) ≡ false
second_never arguments = bind_never (count_meaning arguments) _ (λ count. refl)

in_never : (arguments : List (List ℕ)) → names (in_meaning arguments) ≡ false
in_never arguments = grind arith

alone_never : (i : CommandMeaning) → is_next i ≡ false → (arguments : List (List ℕ)) → names (alone i arguments) ≡ false
alone_never i never arguments = bind_never (no_more arguments) _ (λ none. never)

later_never : (name : List ℕ) (arguments : List (List ℕ)) → names (later_meaning name arguments) ≡ false
later_never name arguments = grind arith

other_never : (name : List ℕ) (arguments : List (List ℕ)) → names (
    if bytes_eq name (codes "start") then alone Starts arguments
    else if bytes_eq name (codes "stop") then alone Stops arguments
    else if bytes_eq name (codes "second") then second_meaning arguments
    else if bytes_eq name (codes "in") then in_meaning arguments
    else later_meaning name arguments
    ) ≡ false
other_never name arguments = grind (arith, if_never, alone_never, second_never, in_never, later_never)

allowed_inside : {A : Type 0} (x : Result A LineFault) (allowed : Result (Unit {0}) LineFault) (next : A → Unit {0} → Result CommandMeaning LineFault)
    → names (x >>= (λ a. allowed >>= next a)) ≡ true → allowed ≡ Ok tt
allowed_inside x allowed next e = grind arith

port_or_other : (b : Bool) (x y : Result CommandMeaning LineFault) → names y ≡ false → names (if b then x else y) ≡ true → names x ≡ true
port_or_other b x y never e = grind arith

command_allowed : (stage : Stage) (name : List ℕ) (arguments : List (List ℕ)) → names (command_meaning stage name arguments) ≡ true → port_allowed stage ≡ Ok tt
command_allowed stage name arguments e = grind (arith, allowed_inside, port_or_other, other_never)

some_names : (r : Result CommandMeaning LineFault) → names_some (r >>= (λ i. Ok (Some i))) ≡ true → names r ≡ true
some_names r e = grind arith

words_allowed : (stage : Stage) (found : Result (List (List ℕ)) LineFault) → names_some (found >>= words_meaning stage) ≡ true → port_allowed stage ≡ Ok tt
words_allowed stage (Ok []) e = absurd (true≢false (sym e))
words_allowed stage (Ok (name ∷ arguments)) e = command_allowed stage name arguments (some_names (command_meaning stage name arguments) e)
words_allowed stage (Err fault) e = absurd (true≢false (sym e))

early : (made : Bool) (ports : ℕ) → port_allowed (record { made = made; ports = ports }) ≡ Ok tt → (made ≡ false) × (ports < 8)
early made ports e = grind arith

-- the router isn't made, and there are fewer than eight ports
pub port_line : (stage : Stage) (line : List ℕ) (named : NamedPort) → line_meaning stage line ≡ Ok (Some (next_port named)) → (stage.made ≡ false) × (stage.ports < 8)
port_line stage line named e = early stage.made stage.ports (words_allowed stage (line_words line) (ap names_some e))
