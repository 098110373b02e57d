-- What bytes of a script lead to: one stretch of them, and two after each other.
use Rattle.std.proofs.Common.{◌≡◌, ℕ, ◌+◌, ◌≤◌, Bool, true, false, List, [], ◌∷◌, ◌++◌, length, refl, ap, ◌∙◌, arith, Ok, Err, append_assoc}
use Rattle.std.proofs.lemmas.Bool.{le-ltb}
use Rattle.std.proofs.lemmas.List.Elements.{All-nil}
use Rattle.ipx_cmd.specs.inside.Leads.{Begins, Ends, IsOneLine, IsPending, Leads, TakesLong}
use Rattle.ipx_cmd.specs.Lines.{is_long, line_feed, longest_line, without_return}
use Rattle.ipx_cmd.specs.Output.{fault_text}
use Rattle.ipx_cmd.specs.Playing.{Step, Transcript, behind, by_lines, line_does}
use Rattle.ipx_cmd.specs.declared.lines.fault.LineFault.{LineFault}
use Rattle.ipx_cmd.specs.declared.lines.fault.LineFault.TheVariants.{Long}
use Rattle.ipx_cmd.proofs.cuts.LinesOfBytes.{at_line, at_long, not_feed}

pub none_pending : IsPending []
none_pending = record { one = All-nil not_feed; short = omega arith }

-- bytes that are pending say nothing yet
pub leads_none : {S : Type 0} (acts : Step S) (state : S) (number : ℕ) (pending : List ℕ) → IsPending pending → Leads acts state number pending [] state number pending
leads_none acts state number pending line = record { is = λ counts takes more. refl; line = line }

pub not_long : (line : List ℕ) → length line ≤ longest_line → is_long line ≡ false
not_long line short = le-ltb longest_line (length line) short

pub line_is : {S : Type 0} (acts : Step S) (state : S) (line : List ℕ) → length line ≤ longest_line → line_does acts state line ≡ acts state (without_return line)
line_is acts state line short = rw (not_long line short) refl

-- a line that a line feed ends
pub leads_line : {S : Type 0} (acts : Step S) (state after : S) (number : ℕ) (line said : List ℕ) → IsPending line → acts state (without_return line) ≡ Ok (after, said)
    → Leads acts state number (line ++ line_feed ∷ []) said after (number + 1) []
leads_line acts state after number line said p does = grind (arith, append_assoc, at_line, line_is, none_pending)

-- a line that is wrong
pub ends_line : {S : Type 0} (acts : Step S) (state : S) (number : ℕ) (line : List ℕ) (fault : LineFault) → IsPending line → acts state (without_return line) ≡ Err fault
    → Ends acts state number (line ++ line_feed ∷ []) (fault_text number fault)
ends_line acts state number line fault p does = grind (arith, append_assoc, at_line, line_is)

-- a line that is too long
pub ends_long : {S : Type 0} (acts : Step S) (state : S) (number : ℕ) (line rest : List ℕ) → IsOneLine line → is_long line ≡ true
    → Ends acts state number (line ++ rest) (fault_text number Long)
ends_long acts state number line rest one long = grind (arith, append_assoc, at_long)

-- a stretch of bytes behind another
module _ {S : Type 0} {acts : Step S} {state middle : S} {number second : ℕ} {bytes said pending : List ℕ} (one : Leads acts state number bytes said middle second pending) (more : List ℕ) where
  at_two : (counts : List ℕ → Bool) (rest : List ℕ) → TakesLong counts
      → by_lines acts counts state number ((bytes ++ more) ++ rest) ≡ behind said (by_lines acts counts middle second ((pending ++ more) ++ rest))
  at_two counts rest takes = grind (arith, append_assoc)

  pub leads_leads : {after : S} {third : ℕ} {further left : List ℕ} → Leads acts middle second (pending ++ more) further after third left
      → Leads acts state number (bytes ++ more) (said ++ further) after third left
  leads_leads {after = after} {third = third} {further = further} {left = left} two = grind (arith, at_two, append_assoc)

  pub leads_ends : {further : List ℕ} → Ends acts middle second (pending ++ more) further → Ends acts state number (bytes ++ more) (said ++ further)
  leads_ends two = record { is = λ counts takes rest. at_two counts rest takes ∙ ap (behind said) (two.is counts takes rest) }

  pub leads_begins : {further : List ℕ} → Begins acts middle second (pending ++ more) further → Begins acts state number (bytes ++ more) (said ++ further)
  leads_begins {further = further} two = grind (arith, at_two, append_assoc)

-- what a line says comes first
pub begins_line : {S : Type 0} (acts : Step S) (state after : S) (number : ℕ) (line said : List ℕ) → IsPending line → acts state (without_return line) ≡ Ok (after, said)
    → Begins acts state number (line ++ line_feed ∷ []) said
begins_line acts state after number line said p does = record {
  is = λ counts takes more. record {
    rest = (by_lines acts counts after (number + 1) more).text;
    is = ap (λ (t : Transcript). t.text) ((leads_line acts state after number line said p does).is counts takes more);
  };
}
