-- Calls of `next`, and the records of all bytes that the reader has.
use Rattle.std.proofs.Common.{◌≡◌, ℕ, zero, suc, ◌+◌, ◌<◌, ◌≤◌, List, [], ◌∷◌, ◌++◌, length, drop, refl, sym, ap, subst, ◌∙◌, arith, Option, Some, None, Result, Ok, Err, append_assoc, append-nil, length-append, length-drop, drop_at}
use Rattle.std.specs.Io.KnownBytes.{Consumes, IsAtEnd}
use Rattle.std.proofs.lemmas.Bool.{le-ltb}
use Rattle.ipx_wire.specs.Ends.{Input}
use Rattle.ipx_wire.specs.Piece.{piece}
use Rattle.ipx_capture.specs.Header.{header_of, order_of, checked}
use Rattle.ipx_capture.specs.Calls.{Calls, IsOfFile, ending}
use Rattle.ipx_capture.specs.Place.{Place, Opened, Takes}
use Rattle.ipx_capture.specs.Records.{Record, records, records_from, behind_header, first_record, behind}
use Rattle.ipx_capture.specs.declared.capture_fault.CaptureFault.{CaptureFault}
use Rattle.ipx_capture.specs.declared.capture_fault.CaptureFault.TheVariants.{CutHeader, Magic, Version, Link, RecordLong, CutRecord, Read, Memory}
use Rattle.ipx_capture.proofs.First.{piece_append, first_none, first_append, behind_append, long_append, first_size}

-- what the reader has left of its bytes
pub record Left (xs more : List ℕ) (left : Option (List ℕ)) : Type 0 where
  pub rest : List ℕ
  pub is : left ≡ Some rest
  pub all : xs ≡ more ++ rest

left_of : (left : Option (List ℕ)) (xs more : List ℕ) → Consumes (Some xs) left more → Left xs more left
left_of left xs more h = grind arith

-- a reader that is at its end has nothing left
none_left : (xs more : List ℕ) (left : Option (List ℕ)) → Left xs more left → IsAtEnd left → xs ≡ more
none_left xs more left l end = grind (arith, append-nil)

known : (p q : Place) (xs : List ℕ) (answer : Result (Option Record) CaptureFault) → p.input.left ≡ Some xs → (t : Takes p q answer) → Left xs t.more q.input.left
known p q xs answer e t = left_of q.input.left xs t.more (subst (λ (l : Option (List ℕ)). Consumes l q.input.left t.more) e t.read)

-- the record that a call tells stands at the front of all bytes, whatever follows
pub told_first : (p q : Place) (rest : List ℕ) (r : Record) → (t : Takes p q (Ok (Some r))) → first_record p.order (p.taken + 1) (p.ahead ++ (t.more ++ rest)) ≡ Ok (Some r)
told_first p q rest r t =
    ap (first_record p.order (p.taken + 1)) (sym (append_assoc p.ahead t.more rest)) ∙ first_append p.order (p.taken + 1) (p.ahead ++ t.more) rest r t.gives.0

-- and what is left then stands behind it
pub told_rest : (p q : Place) (rest : List ℕ) (r : Record) → (t : Takes p q (Ok (Some r))) → q.ahead ++ rest ≡ behind r (p.ahead ++ (t.more ++ rest))
told_rest p q rest r t =
    ap (λ b. b ++ rest) t.gives.1 ∙ sym (behind_append p.order (p.taken + 1) (p.ahead ++ t.more) rest r t.gives.0) ∙ ap (behind r) (append_assoc p.ahead t.more rest)

-- the same of a reader that tells its bytes
taken_first : (p q : Place) (xs : List ℕ) (r : Record) → (e : p.input.left ≡ Some xs) → (t : Takes p q (Ok (Some r))) → first_record p.order (p.taken + 1) (p.ahead ++ xs) ≡ Ok (Some r)
taken_first p q xs r e t =
    let l = known p q xs (Ok (Some r)) e t in ap (λ b. first_record p.order (p.taken + 1) (p.ahead ++ b)) l.all ∙ told_first p q l.rest r t

taken_rest : (p q : Place) (xs : List ℕ) (r : Record) → (e : p.input.left ≡ Some xs) → (t : Takes p q (Ok (Some r))) → q.ahead ++ (known p q xs (Ok (Some r)) e t).rest ≡ behind r (p.ahead ++ xs)
taken_rest p q xs r e t = grind (arith, known, told_rest)

-- so does the end, or a fault of the file
ended_first : (p q : Place) (xs : List ℕ) (fault : Option CaptureFault) → p.input.left ≡ Some xs → Takes p q (ending fault) → IsOfFile fault
    → first_record p.order (p.taken + 1) (p.ahead ++ xs) ≡ ending fault
ended_first p q xs None e t of =
    let l = known p q xs (Ok None) e t in
    let all : xs ≡ t.more = none_left xs t.more q.input.left l t.gives.2 in
    ap (λ b. first_record p.order (p.taken + 1) (p.ahead ++ b)) all ∙ ap (first_record p.order (p.taken + 1)) t.gives.0 ∙ first_none p.order (p.taken + 1) [] refl
ended_first p q xs (Some CutRecord) e t of =
    let l = known p q xs (Err CutRecord) e t in
    ap (λ b. first_record p.order (p.taken + 1) (p.ahead ++ b)) (none_left xs t.more q.input.left l t.gives.1) ∙ t.gives.0
ended_first p q xs (Some RecordLong) e t of =
    let l = known p q xs (Err RecordLong) e t in
    ap (λ b. first_record p.order (p.taken + 1) (p.ahead ++ b)) l.all ∙ ap (first_record p.order (p.taken + 1)) (sym (append_assoc p.ahead t.more l.rest))
    ∙ long_append p.order (p.taken + 1) (p.ahead ++ t.more) l.rest t.gives.0
ended_first p q xs (Some Read) e t of = absurd (of.0 refl)
ended_first p q xs (Some Memory) e t of = absurd (of.1 refl)
ended_first p q xs (Some CutHeader) e t of = absurd t.gives
ended_first p q xs (Some Magic) e t of = absurd t.gives
ended_first p q xs (Some Version) e t of = absurd t.gives
ended_first p q xs (Some Link) e t of = absurd t.gives

pub from_end : (most : ℕ) (p : Place) (n : ℕ) (b : List ℕ) (fault : Option CaptureFault) → first_record p.order n b ≡ ending fault
    → records_from (suc most) p.order n b ≡ record { records = []; fault = fault }
from_end most p n b fault e = grind arith

-- a record, and those that follow it
pub step_on : (most : ℕ) (p m : Place) (all left : List ℕ) (r : Record) (rs : List Record) (fault : Option CaptureFault) → first_record p.order (p.taken + 1) all ≡ Ok (Some r)
    → left ≡ behind r all → Takes p m (Ok (Some r)) → records_from most m.order (m.taken + 1) left ≡ record { records = rs; fault = fault }
    → records_from (suc most) p.order (p.taken + 1) all ≡ record { records = r ∷ rs; fault = fault }
step_on most p m all left r rs fault first rest t later = grind arith

pub calls_are : (told : List Record) (most : ℕ) (p q ended : Place) (xs : List ℕ) (fault : Option CaptureFault) → p.input.left ≡ Some xs → length (p.ahead ++ xs) < most
    → Calls p told q → Takes q ended (ending fault) → IsOfFile fault → records_from most p.order (p.taken + 1) (p.ahead ++ xs) ≡ record { records = told; fault = fault }
calls_are told zero p q ended xs fault e few calls end of = absurd (omega arith)
calls_are [] (suc most) p q ended xs fault e few calls end of =
    from_end most p (p.taken + 1) (p.ahead ++ xs) fault (ended_first p ended xs fault e (subst (λ (x : Place). Takes x ended (ending fault)) calls end) of)
calls_are (r ∷ rs) (suc most) p q ended xs fault e few (m, t, calls) end of =
    let l = known p m xs (Ok (Some r)) e t in
    let first = taken_first p m xs r e t in
    let rest = taken_rest p m xs r e t in
    let size = first_size p.order (p.taken + 1) (p.ahead ++ xs) r first in
    let less : length (m.ahead ++ l.rest) < most = omega (arith, ap length rest, length-drop (16 + length r.bytes) (p.ahead ++ xs), size) in
    step_on most p m (p.ahead ++ xs) (m.ahead ++ l.rest) r rs fault first rest t (calls_are rs most m q ended l.rest fault l.is less calls end of)

-- further bytes change no header
pub header_append : (a b : List ℕ) → 24 ≤ length a → header_of (a ++ b) ≡ header_of a
unfolding header_of
header_append a b h =
    rw (le-ltb (length (a ++ b)) 24 (omega (arith, length-append a b)), le-ltb (length a) 24 h)
    (ap (λ l. checked (order_of l) (piece (a ++ b) 4 2) (piece (a ++ b) 6 2) (piece (a ++ b) 20 4)) (piece_append a b 0 4 (omega arith))
    ∙ ap (λ l. checked (order_of (piece a 0 4)) l (piece (a ++ b) 6 2) (piece (a ++ b) 20 4)) (piece_append a b 4 2 (omega arith))
    ∙ ap (λ l. checked (order_of (piece a 0 4)) (piece a 4 2) l (piece (a ++ b) 20 4)) (piece_append a b 6 2 (omega arith))
    ∙ ap (λ l. checked (order_of (piece a 0 4)) (piece a 4 2) (piece a 6 2) l) (piece_append a b 20 4 (omega arith)))

-- the calls give the records of the file
pub file_is : (before_ : Input) (file : List ℕ) (first last ended : Place) (told : List Record) (fault : Option CaptureFault)
    → before_.left ≡ Some file → Opened before_ first → Calls first told last → Takes last ended (ending fault) → IsOfFile fault
    → records file ≡ record { records = told; fault = fault }
file_is before_ file first last ended told fault e opened calls end of =
    let h = opened.begun.header in
    let l = left_of first.input.left file h (subst (λ (x : Option (List ℕ)). Consumes x first.input.left h) e opened.begun.read) in
    let size = opened.begun.size in
    let header : header_of file ≡ Ok first.order = ap header_of l.all ∙ header_append h l.rest (omega arith) ∙ opened.begun.order_is in
    let rest : drop 24 file ≡ first.ahead ++ l.rest = ap (drop 24) l.all ∙ drop_at h l.rest 24 size ∙ ap (λ x. x ++ l.rest) (sym opened.fresh) in
    let few : length (first.ahead ++ l.rest) < suc (length file) = omega (arith, ap length rest, length-drop 24 file) in
    ap (λ x. behind_header x file) header
    ∙ ap (records_from (suc (length file)) first.order 1) rest
    ∙ ap (λ n. records_from (suc (length file)) first.order (n + 1) (first.ahead ++ l.rest)) (sym opened.none)
    ∙ calls_are told (suc (length file)) first last ended l.rest fault l.is few calls end of
