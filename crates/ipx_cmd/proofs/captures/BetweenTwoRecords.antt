-- A run of `decode` between two records.
use Rattle.std.proofs.Common.{◌≡◌, ℕ, ◌+◌, ◌-◌, ◌*◌, ◌<◌, ◌≤◌, false, List, [], ◌∷◌, ◌++◌, length, refl, sym, ap, subst, ◌∙◌, arith, Some, Ok, append_assoc, length-append, length-drop, rules}
use Rattle.std.proofs.KnownBytes.{Appends-nil, Appends-trans, Consumes-nil, Consumes-trans}
use Rattle.std.proofs.lemmas.List.{flat_map_more}
use Rattle.std.specs.Io.KnownBytes.{Appends, Consumes}
use Rattle.std.specs.List.{flat_map}
use Rattle.ipx_wire.specs.Ends.{Input, Output}
use Rattle.ipx_capture.specs.Place.{Place, Opened, Takes}
use Rattle.ipx_capture.specs.Records.{Record, first_record}
use Rattle.ipx_capture.specs.declared.standing.Standing.TheVariants.{Open}
use Rattle.ipx_capture.proofs.First.{whole_first, first_size}
use Rattle.ipx_cmd.specs.inside.Moved.{Moved}
use Rattle.ipx_cmd.specs.RecordText.{record_text}
use Rattle.ipx_cmd.proofs.captures.RecordsInFront.{Rows, rows_append, rows_more}

-- since a place these bytes were read and these records taken; the text of the records is what was written and what is left
pub record Midway (start now : Place) (from to : Output) (text : List ℕ) (shown : ℕ) : Type 0 where
  pub more : List ℕ
  pub rs : List Record
  pub gone : List ℕ
  pub read : Consumes start.input.left now.input.left more
  pub order : now.order ≡ start.order
  pub rows : Rows start.order 1 more rs now.ahead
  pub taken : now.taken ≡ length rs
  pub numbered : shown ≡ length rs
  pub goes_on : now.standing ≡ Open
  pub wrote : Appends from.written to.written gone
  pub text_is : flat_map record_text rs ≡ gone ++ text
  pub fine_in : now.input.failed ≡ false
  pub fine_out : to.failed ≡ false
  pub few : 16 * length rs + length now.ahead ≤ 262160 * now.input.calls
  pub bounded : now.input.calls ≤ 16777216

-- right behind the header
pub midway_start : (before : Input) (p : Place) (o : Output) (text : List ℕ) → Opened before p → text ≡ [] → o.failed ≡ false → Midway p p o o text 0
midway_start before p o text opened none fine = record {
  more = [];
  rs = [];
  gone = [];
  read = Consumes-nil p.input.left;
  order = refl;
  rows = opened.fresh;
  taken = opened.none;
  numbered = refl;
  goes_on = opened.goes_on;
  wrote = Appends-nil o.written;
  text_is = sym none;
  fine_in = opened.begun.fine;
  fine_out = fine;
  few = omega (arith, ap length opened.fresh);
  bounded = opened.begun.bounded;
}

-- text was written
pub midway_moved : {p q : Place} {from o to : Output} {text left : List ℕ} {shown : ℕ} → Midway p q from o text shown → Moved o to text left → Midway p q from to left shown
midway_moved {from = from} {o = o} {to = to} {left = left} m moved = record {
  more = m.more;
  rs = m.rs;
  gone = m.gone ++ moved.gone;
  read = m.read;
  order = m.order;
  rows = m.rows;
  taken = m.taken;
  numbered = m.numbered;
  goes_on = m.goes_on;
  wrote = Appends-trans from.written o.written to.written m.gone moved.gone m.wrote moved.written;
  text_is = m.text_is ∙ ap (λ (t : List ℕ). m.gone ++ t) moved.all ∙ sym (append_assoc m.gone moved.gone left);
  fine_in = m.fine_in;
  fine_out = moved.fine;
  few = m.few;
  bounded = m.bounded;
}

-- the record that a call told
pub record Next (p q : Place) (more : List ℕ) (r : Record) : Type 0 where
  pub is : first_record p.order (p.taken + 1) (p.ahead ++ more) ≡ Ok (Some r)
  pub number : r.number ≡ p.taken + 1
  pub size : length q.ahead + 16 + length r.bytes ≡ length p.ahead + length more

pub next_of : {p q : Place} {r : Record} (t : Takes p q (Ok (Some r))) → Next p q t.more r
next_of {p = p} {r = r} t = search (rules, whole_first, first_size, length-drop, length-append)

-- a record was taken, and its text put behind the text that is left
pub midway_took : {p q s : Place} {from to : Output} {text left : List ℕ} {shown : ℕ} {r : Record} → Midway p q from to text shown → Takes q s (Ok (Some r))
    → left ≡ text ++ record_text r → Midway p s from to left r.number
midway_took {p = p} {q = q} {s = s} {text = text} {r = r} m t said =
    let next = next_of t in
    let first : first_record p.order (q.taken + 1) (q.ahead ++ t.more) ≡ Ok (Some r) = ap (λ o. first_record o (q.taken + 1) (q.ahead ++ t.more)) (sym m.order) ∙ next.is in
    let rows = rows_more p.order m.rs 1 (q.taken + 1) (m.more ++ t.more) (q.ahead ++ t.more) r
    (rows_append p.order m.rs 1 m.more q.ahead t.more m.rows) (omega (arith, m.taken)) first in
    let longer : length (m.rs ++ r ∷ []) ≡ length m.rs + 1 = length-append m.rs (r ∷ []) in
    record {
      more = m.more ++ t.more;
      rs = m.rs ++ r ∷ [];
      gone = m.gone;
      read = Consumes-trans p.input.left q.input.left s.input.left m.more t.more m.read t.read;
      order = t.order ∙ m.order;
      rows = subst (λ (x : List ℕ). Rows p.order 1 (m.more ++ t.more) (m.rs ++ r ∷ []) x) (sym t.gives.1) rows;
      taken = omega (arith, t.taken, m.taken, longer);
      numbered = omega (arith, next.number, m.taken, longer);
      goes_on = t.standing;
      wrote = m.wrote;
      text_is = sym (flat_map_more record_text [] m.rs r) ∙ ap (λ (x : List ℕ). x ++ record_text r) m.text_is
          ∙ append_assoc m.gone text (record_text r) ∙ ap (λ (x : List ℕ). m.gone ++ x) (sym said);
      fine_in = t.gives.2;
      fine_out = m.fine_out;
      few = omega (arith, m.few, t.gained.few, next.size, longer);
      bounded = t.gained.bounded m.bounded;
    }

-- and less is to come: each call of the reader brings a bounded number of bytes, and a record takes some away
pub shrinks : {p q s : Place} {from to : Output} {text : List ℕ} {shown : ℕ} {r : Record} → Midway p q from to text shown → Takes q s (Ok (Some r))
    → 262160 * (16777216 - s.input.calls) + length s.ahead < 262160 * (16777216 - q.input.calls) + length q.ahead
shrinks m t = grind (arith, next_of)
