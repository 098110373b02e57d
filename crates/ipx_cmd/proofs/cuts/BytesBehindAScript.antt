-- Bytes behind those of a script.
use Rattle.std.proofs.Common.{◌≡◌, ◌⊎◌, ℕ, ◌+◌, true, List, [], ◌∷◌, ◌++◌, length, refl, sym, ap, ◌∙◌, subst, inl, inr, Result, Ok, Err, append_assoc, append-nil, arith}
use Rattle.std.proofs.lemmas.Bool.{cases_Bool, cases_lt, eqb-true, lt-ltb}
use Rattle.std.proofs.lemmas.List.Elements.{All-nil, All-cons, All-append}
use Rattle.ipx_cmd.specs.Decoded.{IsFront}
use Rattle.ipx_cmd.specs.inside.Leads.{Ends, IsPending, Leads, TakesLong}
use Rattle.ipx_cmd.specs.Lines.{is_any, is_line_feed, is_long, line_feed, longest_line, without_return}
use Rattle.ipx_cmd.specs.Output.{fault_text}
use Rattle.ipx_cmd.specs.Playing.{Step, Transcript, behind, by_lines, is_bad, of_front, of_script}
use Rattle.ipx_cmd.specs.declared.ended.Ended.TheVariants.{Done, BadInput}
use Rattle.ipx_cmd.specs.declared.lines.fault.LineFault.{LineFault}
use Rattle.ipx_cmd.specs.declared.lines.fault.LineFault.TheVariants.{Long}
use Rattle.ipx_cmd.proofs.cuts.LinesOfBytes.{at_last, not_feed}
use Rattle.ipx_cmd.proofs.cuts.LedToByBytes.{ends_line, ends_long, leads_ends, leads_leads, leads_line, leads_none, none_pending, not_long}

pub record Reaches {S : Type 0} (acts : Step S) (state : S) (number : ℕ) (bytes : List ℕ) : Type 0 where
  pub after : S
  pub later : ℕ
  pub said : List ℕ
  pub pending : List ℕ
  pub leads : Leads acts state number bytes said after later pending

pub record Stops {S : Type 0} (acts : Step S) (state : S) (number : ℕ) (bytes : List ℕ) : Type 0 where
  pub said : List ℕ
  pub ends : Ends acts state number bytes said

abbrev Goes : {S : Type 0} → Step S → S → ℕ → List ℕ → Type 0
Goes acts state number bytes = Reaches acts state number bytes ⊎ Stops acts state number bytes

-- what stands behind a line
behind_line : {S : Type 0} (acts : Step S) (state : S) (number : ℕ) (pending rest : List ℕ) → IsPending pending → (does : Result (S × List ℕ) LineFault)
    → acts state (without_return pending) ≡ does → ((after : S) → Goes acts after (number + 1) rest) → Goes acts state number ((pending ++ line_feed ∷ []) ++ rest)
behind_line acts state number pending rest p (Ok done) does later =
    let one = leads_line acts state done.0 number pending done.1 p does in
    elim (later done.0) [
      | inl r ↦ inl (record {
        after = r.after;
        later = r.later;
        said = done.1 ++ r.said;
        pending = r.pending;
        leads = leads_leads one rest r.leads;
      })
      | inr s ↦ inr (record {
        said = done.1 ++ s.said;
        ends = leads_ends one rest s.ends;
      })
    ]
behind_line acts state number pending rest p (Err fault) does later = inr (record {
  said = fault_text number fault;
  ends = record {
    is = λ counts takes more. ap (λ (x : List ℕ). by_lines acts counts state number x) (append_assoc (pending ++ line_feed ∷ []) rest more)
        ∙ (ends_line acts state number pending fault p does).is counts takes (rest ++ more);
  };
})

-- where bytes lead to, behind those that are pending
goes_from : {S : Type 0} (acts : Step S) (rest : List ℕ) (state : S) (number : ℕ) (pending : List ℕ) → IsPending pending → Goes acts state number (pending ++ rest)
goes_from acts [] state number pending p = inl (record {
  after = state;
  later = number;
  said = [];
  pending = pending;
  leads = subst (λ (x : List ℕ). Leads acts state number x [] state number pending) (sym (append-nil pending)) (leads_none acts state number pending p);
})
goes_from acts (byte ∷ rest) state number pending p =
    let joined : (pending ++ byte ∷ []) ++ rest ≡ pending ++ byte ∷ rest = append_assoc pending (byte ∷ []) rest in
    elim (cases_Bool (is_line_feed byte)) [
      | inl feed ↦ subst (λ (b : ℕ). Goes acts state number (pending ++ b ∷ rest)) (sym (eqb-true byte line_feed feed))
          (subst (λ (x : List ℕ). Goes acts state number x) (append_assoc pending (line_feed ∷ []) rest)
          (behind_line acts state number pending rest p (acts state (without_return pending)) refl (λ after. goes_from acts rest after (number + 1) [] none_pending)))
      | inr other ↦
          let one = All-append not_feed pending (byte ∷ []) p.one (All-cons not_feed byte [] other (All-nil not_feed)) in
          elim (cases_lt longest_line (length (pending ++ byte ∷ []))) [
            | inl long ↦ subst (λ (x : List ℕ). Goes acts state number x) joined (inr (record {
              said = fault_text number Long;
              ends = ends_long acts state number (pending ++ byte ∷ []) rest one (lt-ltb longest_line (length (pending ++ byte ∷ [])) long);
            }))
            | inr short ↦ subst (λ (x : List ℕ). Goes acts state number x) joined
                (goes_from acts rest state number (pending ++ byte ∷ []) (record { one = one; short = short }))
          ]
    ]

goes : {S : Type 0} (acts : Step S) (state : S) (bytes : List ℕ) → Goes acts state 1 bytes
goes acts state bytes = goes_from acts bytes state 1 [] none_pending

pub takes_long : TakesLong is_long
takes_long line long = long

pub takes_any : TakesLong is_any
takes_any [] long = absurd cc
takes_any (byte ∷ line) long = refl

-- nothing is said of a line that isn't at its end
open_line : {S : Type 0} (acts : Step S) (state : S) (number : ℕ) (pending : List ℕ) → IsPending pending → by_lines acts is_long state number pending ≡ record { text = []; ended = Done }
open_line acts state number pending p = at_last acts is_long state number pending p.one ∙ rw (not_long pending p.short) refl

-- the text so far of bytes that lead on
pub front_leads : {S : Type 0} (acts : Step S) (state after : S) (later : ℕ) (bytes said pending : List ℕ) → Leads acts state 1 bytes said after later pending
    → of_front acts state bytes ≡ record { text = said; ended = Done }
front_leads acts state after later bytes said pending leads =
    ap (λ (x : List ℕ). by_lines acts is_long state 1 x) (sym (append-nil bytes))
    ∙ leads.is is_long takes_long []
    ∙ ap (λ (x : List ℕ). behind said (by_lines acts is_long after later x)) (append-nil pending)
    ∙ ap (behind said) (open_line acts after later pending leads.line)
    ∙ ap (λ (x : List ℕ). record { text = x; ended = Done }) (append-nil said)

-- of bytes that end it
pub front_ends : {S : Type 0} (acts : Step S) (state : S) (bytes said : List ℕ) → Ends acts state 1 bytes said → of_front acts state bytes ≡ record { text = said; ended = BadInput }
front_ends acts state bytes said ends = ap (λ (x : List ℕ). by_lines acts is_long state 1 x) (sym (append-nil bytes)) ∙ ends.is is_long takes_long []

pub script_ends : {S : Type 0} (acts : Step S) (state : S) (bytes said : List ℕ) → Ends acts state 1 bytes said → of_script acts state bytes ≡ record { text = said; ended = BadInput }
script_ends acts state bytes said ends = ap (λ (x : List ℕ). by_lines acts is_any state 1 x) (sym (append-nil bytes)) ∙ ends.is is_any takes_any []

-- the text begins with the text so far
pub continues_front : {S : Type 0} (acts : Step S) (state : S) (bytes more : List ℕ) → IsFront (of_front acts state bytes).text (of_script acts state (bytes ++ more)).text
continues_front acts state bytes more = elim (goes acts state bytes) [
  | inl r ↦
      let further = by_lines acts is_any r.after r.later (r.pending ++ more) in
      record {
        rest = further.text;
        is = ap (λ (t : Transcript). t.text) (r.leads.is is_any takes_any more)
            ∙ ap (λ (t : Transcript). t.text ++ further.text) (sym (front_leads acts state r.after r.later bytes r.said r.pending r.leads));
      }
  | inr s ↦ record {
    rest = [];
    is = ap (λ (t : Transcript). t.text) (s.ends.is is_any takes_any more ∙ sym (front_ends acts state bytes s.said s.ends)) ∙ sym (append-nil (of_front acts state bytes).text);
  }
]

-- and is just that where it ends at a line that is wrong
continues_whole : {S : Type 0} (acts : Step S) (state : S) (bytes more : List ℕ) → is_bad (of_front acts state bytes).ended ≡ true
    → (of_script acts state (bytes ++ more) ≡ of_front acts state bytes) × ((of_front acts state bytes).ended ≡ BadInput)
continues_whole acts state bytes more bad = elim (goes acts state bytes) [
  | inl r ↦
      let good = ap (λ (t : Transcript). is_bad t.ended) (front_leads acts state r.after r.later bytes r.said r.pending r.leads) in
      absurd cc
  | inr s ↦ (s.ends.is is_any takes_any more ∙ sym (front_ends acts state bytes s.said s.ends), ap (λ (t : Transcript). t.ended) (front_ends acts state bytes s.said s.ends))
]

pub continues_text : {S : Type 0} (acts : Step S) (state : S) (bytes more : List ℕ) → is_bad (of_front acts state bytes).ended ≡ true
    → (of_script acts state (bytes ++ more)).text ≡ (of_front acts state bytes).text
continues_text acts state bytes more bad = ap (λ (t : Transcript). t.text) (continues_whole acts state bytes more bad).0

pub continues_end : {S : Type 0} (acts : Step S) (state : S) (bytes more : List ℕ) → is_bad (of_front acts state bytes).ended ≡ true
    → (of_script acts state (bytes ++ more)).ended ≡ BadInput
continues_end acts state bytes more bad = grind (arith, continues_whole)
