-- What the parser makes of the words that ask for a run.
use Rattle.std.proofs.Common.{◌≡◌, ◌==◌, ℕ, Bool, true, false, not, List, [], ◌∷◌, Option, Some, None, sym, refl, subst, inl, inr, codes, option_map, bytes_eq, eqb-true, ap, unwrap_or, arith}
use Rattle.clap.specs.Walk.{Row, Text, first_of}
use Rattle.clap.specs.Simple.{is_simple, subcommand_of}
use Rattle.clap.specs.Lexer.{long_of, short_of}
use Rattle.clap.specs.Takes.{takes}
use Rattle.clap.proofs.OnLiterals.{clap_on_literals}
use Rattle.ipx_cmd.specs.Chosen.{IsAsked, command_line, is_plain, word_of}
use Rattle.ipx_cmd.specs.declared.chosen.Run.{Run}

-- the file in a subcommand's matches
abbrev pub file_of : Option (Text × List Row) → Option (Option Text)
file_of = option_map (λ p. first_of (codes "file") p.1)

-- the word of a subcommand
abbrev pub verb_of : Option (Text × List Row) → Option Text
verb_of = option_map (λ p. p.0)

-- the parser takes the words, and finds this command and this file
abbrev pub Reads : Run → List Text → Option Text → Type 0
Reads run words file =
    (takes command_line words ≡ true) × (file_of (subcommand_of command_line words) ≡ Some file) × (verb_of (subcommand_of command_line words) ≡ Some (word_of run))

pub simple : is_simple command_line ≡ true
unfolding clap_on_literals
simple = refl

reads-none : (run : Run) → Reads run (word_of run ∷ []) None
unfolding clap_on_literals
reads-none run = grind arith

reads-after : (run : Run) → (file : Text) → Reads run (word_of run ∷ codes "--" ∷ file ∷ []) (Some file)
unfolding clap_on_literals
reads-after run file = grind arith

reads-empty : (run : Run) → Reads run (word_of run ∷ [] ∷ []) (Some [])
unfolding clap_on_literals
reads-empty run = grind arith

reads-hyphen : (run : Run) → Reads run (word_of run ∷ codes "-" ∷ []) (Some (codes "-"))
unfolding clap_on_literals
reads-hyphen run = grind arith

reads-plain : (run : Run) → (file : Text) → bytes_eq file (codes "--") ≡ false → long_of file ≡ None → short_of file ≡ None
    → Reads run (word_of run ∷ file ∷ []) (Some file)
unfolding clap_on_literals
reads-plain run file other long short = grind arith

no_option : (run : Run) → (first : ℕ) (more : Text) → (first == 45) ≡ false → Reads run (word_of run ∷ (first ∷ more) ∷ []) (Some (first ∷ more))
no_option run first more other = reads-plain run (first ∷ more) (rw other refl) (rw other refl) (rw other refl)

alone : (run : Run) → (first : ℕ) (hyphen : Bool) → (first == 45) ≡ hyphen → Reads run (word_of run ∷ (first ∷ []) ∷ []) (Some (first ∷ []))
alone run first true e = subst (λ (x : ℕ). Reads run (word_of run ∷ (x ∷ []) ∷ []) (Some (x ∷ []))) (sym (eqb-true first 45 e)) (reads-hyphen run)
alone run first false e = no_option run first [] e

unhyphened : (first : Bool) → not first ≡ true → first ≡ false
unhyphened first plain = grind arith

named : (run : Run) → (file : Text) → is_plain file ≡ true → Reads run (word_of run ∷ file ∷ []) (Some file)
named run [] plain = reads-empty run
named run (first ∷ []) plain = alone run first (first == 45) refl
named run (first ∷ second ∷ more) plain = no_option run first (second ∷ more) (unhyphened (first == 45) plain)

-- each form of a request for a run
pub reads : (run : Run) → (words : List Text) (file : Option Text) → IsAsked run words file → Reads run words file
reads run words None e = subst (λ (ws : List Text). Reads run ws None) (sym e) (reads-none run)
reads run words (Some file) (inl asked) = subst (λ (ws : List Text). Reads run ws (Some file)) (sym asked.0) (named run file asked.1)
reads run words (Some file) (inr e) = subst (λ (ws : List Text). Reads run ws (Some file)) (sym e) (reads-after run file)

-- the file that stands in the rows of the subcommand that was met
pub found : (rows : List Row) (met : Option (Text × List Row)) (file : Option Text) → Some rows ≡ option_map (λ p. p.1) met
    → file_of met ≡ Some file → first_of (codes "file") rows ≡ file
found rows met file same is = grind arith

-- the word that stands in the subcommand that was met
pub verb_first : {A : Type 0} {B : Type 0} {C : Type 0} (f : A → B) (g : A → C) (o : Option A) → option_map f o ≡ option_map (λ (p : B × C). p.0) (option_map (λ (a : A). (f a, g a)) o)
verb_first f g o = grind arith

pub some_same : {X : Type 0} (x y : X) → Some x ≡ Some y → x ≡ y
some_same x y e = ap (λ o. unwrap_or o x) e
