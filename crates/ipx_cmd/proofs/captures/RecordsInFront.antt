-- Records that stand at the front of bytes, one behind another.
use Rattle.std.proofs.Common.{◌≡◌, ℕ, zero, suc, ◌+◌, ◌<◌, List, [], ◌∷◌, ◌++◌, length, sym, ap, subst, ◌∙◌, arith, Option, Some, Ok, append-nil, length-drop}
use Rattle.ipx_capture.specs.Records.{Record, Contents, records_from, from_front, first_record, behind, before}
use Rattle.ipx_capture.specs.Calls.{ending}
use Rattle.ipx_capture.specs.declared.capture_fault.CaptureFault.{CaptureFault}
use Rattle.ipx_capture.specs.declared.order.Order.{Order}
use Rattle.ipx_capture.proofs.First.{first_append, behind_append, first_size}

-- from number n on, these records stand at the front, and then the rest
abbrev pub Rows : Order → ℕ → List ℕ → List Record → List ℕ → Type 0
Rows order n bytes [] rest = rest ≡ bytes
Rows order n bytes (r ∷ rs) rest = (first_record order n bytes ≡ Ok (Some r)) × Rows order (n + 1) (behind r bytes) rs rest

-- further bytes change none of them
pub rows_append : (order : Order) (rs : List Record) (n : ℕ) (bytes rest more : List ℕ) → Rows order n bytes rs rest → Rows order n (bytes ++ more) rs (rest ++ more)
rows_append order [] n bytes rest more e = ap (λ (x : List ℕ). x ++ more) e
rows_append order (r ∷ rs) n bytes rest more (first, later) = (
  first_append order n bytes more r first,
  subst (λ (x : List ℕ). Rows order (n + 1) x rs (rest ++ more)) (sym (behind_append order n bytes more r first))
      (rows_append order rs (n + 1) (behind r bytes) rest more later),
)

-- one record more
pub rows_more : (order : Order) (rs : List Record) (n m : ℕ) (bytes rest : List ℕ) (r : Record) → Rows order n bytes rs rest → m ≡ n + length rs
    → first_record order m rest ≡ Ok (Some r) → Rows order n bytes (rs ++ r ∷ []) (behind r rest)
rows_more order [] n m bytes rest r e same first = grind arith
rows_more order (q ∷ rs) n m bytes rest r (told, later) same first =
    (told, rows_more order rs (n + 1) m (behind q bytes) rest r later (omega (arith, same)) first)

-- records, and then those of other contents
abbrev pub prepend : List Record → Contents → Contents
prepend rs c = record { records = rs ++ c.records; fault = c.fault }

-- the records of the bytes are these, and then those of the rest
pub record Split (most : ℕ) (order : Order) (n : ℕ) (bytes : List ℕ) (rs : List Record) (rest : List ℕ) : Type 0 where
  pub left : ℕ
  pub are : records_from most order n bytes ≡ prepend rs (records_from (suc left) order (n + length rs) rest)

pub rows_split : (order : Order) (rs : List Record) (most n : ℕ) (bytes rest : List ℕ) → Rows order n bytes rs rest → length bytes < most
    → Split most order n bytes rs rest
rows_split order rs zero n bytes rest rows few = absurd (omega arith)
rows_split order [] (suc most) n bytes rest e few = record {
  left = most;
  are = ap (λ (x : List ℕ). records_from (suc most) order n x) (sym e)
      ∙ ap (λ (k : ℕ). records_from (suc most) order k rest) (let none : n ≡ n + 0 = omega arith in none);
}
rows_split order (r ∷ rs) (suc most) n bytes rest (first, later) few =
    let size = first_size order n bytes r first in
    let less : length (behind r bytes) < most = omega (arith, few, size, length-drop (16 + length r.bytes) bytes) in
    let split = rows_split order rs most (n + 1) (behind r bytes) rest later less in
    let number : n + 1 + length rs ≡ n + suc (length rs) = omega arith in
    record {
      left = split.left;
      are = ap (λ x. from_front x (λ s. records_from most order (n + 1) (behind s bytes))) first
          ∙ ap (before r) split.are
          ∙ ap (λ (k : ℕ). prepend (r ∷ rs) (records_from (suc split.left) order k rest)) number;
    }

-- the end or the fault behind them is that of the bytes
met : (order : Order) (most m : ℕ) (rest : List ℕ) (fault : Option CaptureFault) → first_record order m rest ≡ ending fault
    → records_from (suc most) order m rest ≡ record { records = []; fault = fault }
met order most m rest fault told = grind arith

pub rows_end : (order : Order) (rs : List Record) (most n m : ℕ) (bytes rest : List ℕ) (fault : Option CaptureFault) → Rows order n bytes rs rest → length bytes < most
    → m ≡ n + length rs → first_record order m rest ≡ ending fault → records_from most order n bytes ≡ record { records = rs; fault = fault }
rows_end order rs most n m bytes rest fault rows few same told =
    let split = rows_split order rs most n bytes rest rows few in
    split.are
    ∙ ap (λ (k : ℕ). prepend rs (records_from (suc split.left) order k rest)) (sym same)
    ∙ ap (prepend rs) (met order split.left m rest fault told)
    ∙ ap (λ (l : List Record). record { records = l; fault = fault }) (append-nil rs)
