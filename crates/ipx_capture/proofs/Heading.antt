-- What reading the header of a file comes to.
use Rattle.std.proofs.Common.{◌≡◌, ℕ, ◌<◌, ◌≤◌, false, List, [], length, take, refl, sym, subst, ◌∙◌, arith, inl, inr, Option, Result, Ok, Err, IsOk, IfOk, IfErr, length-take-le}
use Rattle.std.proofs.lemmas.Bool.{lt-ltb, le-ltb, cases_lt}
use Rattle.std.specs.Io.KnownBytes.{Consumes}
use Rattle.ipx_wire.specs.Ends.{Input}
use Rattle.ipx_wire.specs.Piece.{piece}
use Rattle.ipx_wire.specs.declared.failed.Failed.{Failed}
use Rattle.ipx_capture.specs.Asks.{Fetched, Lacks}
use Rattle.ipx_capture.specs.Given.{BegunBy, UnopenedBy}
use Rattle.ipx_capture.specs.Header.{header_of, order_of, checked}
use Rattle.ipx_capture.specs.Reads.{FilledFront, LostFront}
use Rattle.ipx_capture.specs.declared.capture_fault.CaptureFault.{CaptureFault}
use Rattle.ipx_capture.specs.declared.capture_fault.CaptureFault.TheVariants.{CutHeader, Magic, Version, Link, RecordLong, CutRecord, Read, Memory}
use Rattle.ipx_capture.specs.declared.order.Order.{Order}
use Rattle.ipx_capture.proofs.Fetching.{fetched_widened}

-- what the fields of a header can tell
abbrev IsChecked : Result Order CaptureFault → Type 0
IsChecked (Ok order) = Unit {0}
IsChecked (Err Magic) = Unit {0}
IsChecked (Err Version) = Unit {0}
IsChecked (Err Link) = Unit {0}
IsChecked (Err CutHeader) = ⊥
IsChecked (Err RecordLong) = ⊥
IsChecked (Err CutRecord) = ⊥
IsChecked (Err Read) = ⊥
IsChecked (Err Memory) = ⊥

are_checked : (o : Option Order) (major minor link : List ℕ) → IsChecked (checked o major minor link)
are_checked o major minor link = grind arith

cut : (b : List ℕ) → length b < 24 → header_of b ≡ Err CutHeader
unfolding header_of
cut b few = rw (lt-ltb (length b) 24 few) refl

enough : (b : List ℕ) → 24 ≤ length b → header_of b ≡ checked (order_of (piece b 0 4)) (piece b 4 2) (piece b 6 2) (piece b 20 4)
unfolding header_of
enough b h = rw (le-ltb (length b) 24 h) refl

module _ (asked : ℕ → List ℕ → Result ℕ Failed → ℕ → Type 0) where
  abbrev Given : Input → Input → List ℕ → Type 0
  Given before after b = Fetched asked (Lacks 24) [] b before.state after.state

  -- what was read and what its header says
  told_checked : (before after : Input) (b : List ℕ) (r : Result Order CaptureFault) → Consumes before.left after.left b → length b ≡ 24 → after.failed ≡ false → after.calls ≤ 16777216
      → Given before after b → header_of b ≡ r → IsChecked r → IfOk r (BegunBy asked before after) × IfErr r (UnopenedBy asked before after)
  told_checked before after b (Ok order) read size fine few by is h =
      (record { begun = record { header = b; read = read; size = size; order_is = is; fine = fine; bounded = few }; fetched = by }, tt)
  told_checked before after b (Err Magic) read size fine few by is h = (tt, record { unopened = record { bytes = b; read = read; told = (is, fine) }; fetched = by; ended = λ e. absurd cc })
  told_checked before after b (Err Version) read size fine few by is h = (tt, record { unopened = record { bytes = b; read = read; told = (is, fine) }; fetched = by; ended = λ e. absurd cc })
  told_checked before after b (Err Link) read size fine few by is h = (tt, record { unopened = record { bytes = b; read = read; told = (is, fine) }; fetched = by; ended = λ e. absurd cc })
  told_checked before after b (Err CutHeader) read size fine few by is h = absurd h
  told_checked before after b (Err RecordLong) read size fine few by is h = absurd h
  told_checked before after b (Err CutRecord) read size fine few by is h = absurd h
  told_checked before after b (Err Read) read size fine few by is h = absurd h
  told_checked before after b (Err Memory) read size fine few by is h = absurd h

  pub header_told : (before after : Input) (buffer : List ℕ) (n : ℕ) (r : Result Order CaptureFault) → FilledFront asked buffer before after n → length buffer ≡ 24 → before.failed ≡ false
      → r ≡ header_of (take n buffer) → IfOk r (BegunBy asked before after) × IfErr r (UnopenedBy asked before after)
  header_told before after buffer n r f size fine is =
      let b = take n buffer in
      let long : length b ≡ n = length-take-le n buffer f.bound in
      let by : Given before after b = fetched_widened asked (Lacks (length buffer)) (Lacks 24) [] b before.state after.state (λ further few. omega (arith, few, size)) f.fetched in
      elim (cases_lt n 24) [
        | inl few ↦
            let told : header_of b ≡ Err CutHeader = cut b (omega arith) in
            let end = f.ended (omega arith) in
            rw (is ∙ told) (tt, record { unopened = record { bytes = b; read = f.read; told = (told, end.0, f.fine ∙ fine) }; fetched = by; ended = λ _. end.1 })
        | inr all ↦ told_checked before after b r f.read (omega (arith, f.bound)) (f.fine ∙ fine) (f.bounded (omega arith)) by (sym is)
            (subst IsChecked (sym (is ∙ enough b (omega arith))) (are_checked (order_of (piece b 0 4)) (piece b 4 2) (piece b 6 2) (piece b 20 4)))
      ]

  -- the source failed before the header was whole
  pub header_lost : (before after : Input) (need : ℕ) → need ≡ 24 → LostFront asked need before after → UnopenedBy asked before after Read
  header_lost before after need size l = record {
    unopened = record { bytes = l.front; read = l.read; told = l.failed };
    fetched = fetched_widened asked (Lacks need) (Lacks 24) [] l.front before.state after.state (λ further few. omega (arith, few, size)) l.fetched;
    ended = λ e. absurd cc;
  }

  -- behind a header no memory was left
  pub no_window : (before after : Input) (order : Order) → BegunBy asked before after order → UnopenedBy asked before after Memory
  no_window before after order b = record {
    unopened = record { bytes = b.begun.header; read = b.begun.read; told = (subst IsOk (sym b.begun.order_is) refl, b.begun.fine) };
    fetched = b.fetched;
    ended = λ e. absurd cc;
  }
