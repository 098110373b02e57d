use Rattle.std.proofs.Common.{◌≡◌, ℕ, ◌+◌, ◌-◌, ◌≤◌, false, List, length, take, drop, sym, ap, ◌∙◌, arith, subst, take-add, length-drop, take_all}
use Rattle.std.proofs.KnownBytes.{Appends-trans}
use Rattle.std.specs.Io.KnownBytes.{Appends}
use Rattle.ipx_wire.specs.Ends.{Output, Took}

-- of some bytes those up to a place were written
pub record WrittenTo (old now : Output) (bytes : List ℕ) (place : ℕ) : Type 0 where
  pub within : place ≤ length bytes
  pub written : Appends old.written now.written (take place bytes)
  pub fine : now.failed ≡ false

-- the writer took some more
pub written_more : (old now new : Output) (bytes : List ℕ) (place n : ℕ) → WrittenTo old now bytes place
    → Took now new (take (length bytes - place) (drop place bytes)) n → WrittenTo old new bytes (place + n)
written_more old now new bytes place n before took =
    let within = before.within in
    let bound = took.bound in
    let rest : take (length bytes - place) (drop place bytes) ≡ drop place bytes =
    take_all (length bytes - place) (drop place bytes) (omega (arith, length-drop place bytes)) in
    let size : length (take (length bytes - place) (drop place bytes)) ≡ length bytes - place = ap length rest ∙ length-drop place bytes in
    let more : Appends now.written new.written (take n (drop place bytes)) =
    subst (λ (l : List ℕ). Appends now.written new.written (take n l)) rest took.written in
    record {
      within = omega (arith, size);
      written = subst (Appends old.written new.written) (sym (take-add place n bytes))
          (Appends-trans old.written now.written new.written (take place bytes) (take n (drop place bytes)) before.written more);
      fine = took.fine ∙ before.fine;
    }
