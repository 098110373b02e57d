-- Calls of `next`, and the records of the bytes that the source's calls gave, whatever the source is.
use Rattle.std.proofs.Common.{◌≡◌, ℕ, zero, suc, ◌+◌, ◌<◌, List, [], ◌∷◌, ◌++◌, length, drop, refl, sym, ap, ◌∙◌, arith, Option, Result, Ok, append_assoc, length-drop, drop_at}
use Rattle.ipx_wire.specs.Ends.{Input}
use Rattle.ipx_wire.specs.declared.failed.Failed.{Failed}
use Rattle.ipx_capture.specs.Asks.{Ask, all_came}
use Rattle.ipx_capture.specs.Calls.{IsOfFile, ending}
use Rattle.ipx_capture.specs.Given.{BegunBy, TakesBy, CallsBy}
use Rattle.ipx_capture.specs.Header.{header_of}
use Rattle.ipx_capture.specs.Place.{Place, Opened, Takes}
use Rattle.ipx_capture.specs.Records.{Record, records, records_from, behind_header, first_record}
use Rattle.ipx_capture.specs.declared.capture_fault.CaptureFault.{CaptureFault}
use Rattle.ipx_capture.proofs.Calling.{from_end, header_append, step_on, told_first, told_rest}
use Rattle.ipx_capture.proofs.Fetching.{all_came-append}
use Rattle.ipx_capture.proofs.First.{first_none, first_size}

-- the end, or a fault of the file, is that of the bytes ahead and those that were given
given_end : (p q : Place) (fault : Option CaptureFault) → (t : Takes p q (ending fault)) → IsOfFile fault → first_record p.order (p.taken + 1) (p.ahead ++ t.more) ≡ ending fault
given_end p q fault t of = grind (arith, first_none)

module _ (asked : ℕ → List ℕ → Result ℕ Failed → ℕ → Type 0) where
  given_are : (told : List Record) (most : ℕ) (p q ended : Place) (asks : List Ask) (fault : Option CaptureFault) (more : List ℕ)
      → CallsBy asked asks p told q → (t : Takes q ended (ending fault)) → more ≡ t.more → IsOfFile fault → length (p.ahead ++ (all_came asks ++ more)) < most
      → records_from most p.order (p.taken + 1) (p.ahead ++ (all_came asks ++ more)) ≡ record { records = told; fault = fault }
  given_are told zero p q ended asks fault more calls t is of few = absurd (omega arith)
  given_are [] (suc most) p q ended asks fault more (none, here) t is of few =
      let all : p.ahead ++ (all_came asks ++ more) ≡ q.ahead ++ t.more =
      ap (λ l. p.ahead ++ (all_came l ++ more)) none ∙ ap (λ l. p.ahead ++ l) is ∙ ap (λ (x : Place). x.ahead ++ t.more) (sym here) in
      ap (λ l. records_from (suc most) p.order (p.taken + 1) l) all ∙ ap (λ (x : Place). records_from (suc most) x.order (x.taken + 1) (q.ahead ++ t.more)) (sym here)
      ∙ from_end most q (q.taken + 1) (q.ahead ++ t.more) fault (given_end q ended fault t of)
  given_are (r ∷ rs) (suc most) p q ended asks fault more (m, later, by, split, calls) t is of few =
      let now = by.takes in
      let rest = all_came later ++ more in
      let all : p.ahead ++ (all_came asks ++ more) ≡ p.ahead ++ (now.more ++ rest) =
      ap (λ l. p.ahead ++ (all_came l ++ more)) split ∙ ap (λ l. p.ahead ++ (l ++ more)) (all_came-append by.fetched.asks later)
      ∙ ap (λ l. p.ahead ++ l) (append_assoc (all_came by.fetched.asks) (all_came later) more) ∙ ap (λ l. p.ahead ++ (l ++ rest)) (sym by.fetched.gave) in
      let first = told_first p m rest r now in
      let left = told_rest p m rest r now in
      let size = first_size p.order (p.taken + 1) (p.ahead ++ (now.more ++ rest)) r first in
      let less : length (m.ahead ++ rest) < most = omega (arith, few, ap length all, ap length left, length-drop (16 + length r.bytes) (p.ahead ++ (now.more ++ rest)), size) in
      ap (records_from (suc most) p.order (p.taken + 1)) all
      ∙ step_on most p m (p.ahead ++ (now.more ++ rest)) (m.ahead ++ rest) r rs fault first left now (given_are rs most m q ended later fault more calls t is of less)

  -- the calls give the records of the bytes that the source's calls gave
  pub given_records : (start : Input) (first last ended : Place) (asks : List Ask) (told : List Record) (fault : Option CaptureFault)
      → Opened start first → (head : BegunBy asked start first.input first.order) → CallsBy asked asks first told last → (end : TakesBy asked last ended (ending fault))
      → IsOfFile fault → records (all_came (head.fetched.asks ++ asks ++ end.fetched.asks)) ≡ record { records = told; fault = fault }
  given_records start first last ended asks told fault opened head calls end of =
      let h = head.begun.header in
      let rest = all_came asks ++ end.takes.more in
      let file = h ++ rest in
      let is : all_came (head.fetched.asks ++ asks ++ end.fetched.asks) ≡ file =
      all_came-append (head.fetched.asks ++ asks) end.fetched.asks ∙ ap (λ l. l ++ all_came end.fetched.asks) (all_came-append head.fetched.asks asks)
      ∙ append_assoc (all_came head.fetched.asks) (all_came asks) (all_came end.fetched.asks)
      ∙ ap (λ l. l ++ (all_came asks ++ all_came end.fetched.asks)) (sym head.fetched.gave) ∙ ap (λ l. h ++ (all_came asks ++ l)) (sym end.fetched.gave) in
      let size = head.begun.size in
      let header : header_of file ≡ Ok first.order = header_append h rest (omega (arith, size)) ∙ head.begun.order_is in
      let behind : drop 24 file ≡ first.ahead ++ rest = drop_at h rest 24 size ∙ ap (λ x. x ++ rest) (sym opened.fresh) in
      let few : length (first.ahead ++ rest) < suc (length file) = omega (arith, ap length behind, length-drop 24 file) in
      ap records is ∙ ap (λ x. behind_header x file) header
      ∙ ap (records_from (suc (length file)) first.order 1) behind
      ∙ ap (λ n. records_from (suc (length file)) first.order (n + 1) (first.ahead ++ rest)) (sym opened.none)
      ∙ given_are told (suc (length file)) first last ended asks fault end.takes.more calls end.takes refl of few
