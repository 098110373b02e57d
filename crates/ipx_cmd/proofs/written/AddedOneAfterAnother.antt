-- Texts that are added one after the other, and prefixes of them.
use Rattle.std.proofs.Common.{◌≡◌, ℕ, zero, suc, ◌+◌, false, List, [], ◌∷◌, ◌++◌, length, take, refl, sym, ap, subst, ◌∙◌, Result, Ok, Err, append_assoc, append-nil, take-add, take_at, drop_at, arith}
use Rattle.std.proofs.KnownBytes.{Appends-nil, Appends-trans}
use Rattle.std.specs.Io.KnownBytes.{Appends}
use Rattle.ipx_wire.specs.Ends.{Output}
use Rattle.ipx_cmd.specs.inside.Acted.{Added}
use Rattle.ipx_cmd.specs.inside.Said.{Says}
use Rattle.ipx_cmd.specs.WroteFront.{WroteAll, WroteFront}
use Rattle.ipx_cmd.specs.declared.ended.RunFault.{RunFault}
use Rattle.ipx_cmd.specs.declared.ended.RunFault.TheVariants.{Memory}

-- nothing was written
pub added_kept : (o : Output) (old new said : List ℕ) → o.failed ≡ false → new ≡ old ++ said → Added o o old new said
added_kept o old new said fine e = record { gone = []; written = Appends-nil o.written; all = sym e; fine = fine }

-- all was written
pub added_written : (o to : Output) (old text said new : List ℕ) → o.failed ≡ false → text ≡ old ++ said → WroteAll o to text → new ≡ [] → Added o to old new said
added_written o to old text said new fine e all none = grind (arith, append-nil)

-- one text and then another
pub added_then : (from mid to : Output) (old text new a b : List ℕ) → Added from mid old text a → Added mid to text new b → Added from to old new (a ++ b)
added_then from mid to old text new a b x y = grind (arith, Appends-trans, append_assoc)

-- a prefix of a text is one of all that begins with it
front_within : (t rest : List ℕ) (n : ℕ) → (k : ℕ) × (take k (t ++ rest) ≡ take n t)
front_within [] rest zero = (0, refl)
front_within [] rest (suc n) = (0, refl)
front_within (x ∷ t) rest zero = (0, refl)
front_within (x ∷ t) rest (suc n) =
    let r = front_within t rest n in
    (suc r.0, ap (λ (l : List ℕ). x ∷ l) r.1)

take_behind : (gone l : List ℕ) (k : ℕ) → take (length gone + k) (gone ++ l) ≡ gone ++ take k l
take_behind gone l k = grind (arith, take-add, take_at, drop_at)

-- some text was added, and then a prefix of what follows was written
pub front_then : (from mid to : Output) (old text a b rest whole : List ℕ) → Added from mid old text a → WroteFront mid to (text ++ b) → whole ≡ a ++ (b ++ rest)
    → WroteFront from to (old ++ whole)
front_then from mid to old text a b rest whole x w e =
    let k = front_within (text ++ b) rest w.count in
    let all : old ++ whole ≡ x.gone ++ ((text ++ b) ++ rest) =
    ap (λ (l : List ℕ). old ++ l) e ∙ sym (append_assoc old a (b ++ rest)) ∙ ap (λ (l : List ℕ). l ++ (b ++ rest)) x.all
    ∙ append_assoc x.gone text (b ++ rest) ∙ ap (λ (l : List ℕ). x.gone ++ l) (sym (append_assoc text b rest)) in
    let front : take (length x.gone + k.0) (old ++ whole) ≡ x.gone ++ take w.count (text ++ b) =
    ap (take (length x.gone + k.0)) all ∙ take_behind x.gone ((text ++ b) ++ rest) k.0 ∙ ap (λ (l : List ℕ). x.gone ++ l) k.1 in
    record {
      count = length x.gone + k.0;
      written = subst (Appends from.written to.written) (sym front)
          (Appends-trans from.written mid.written to.written x.gone (take w.count (text ++ b)) x.written w.written);
    }

-- nothing of it was written: out of memory
pub says_memory : (o : Output) (old new said : List ℕ) → o.failed ≡ false → Says o o old new said (Err Memory)
says_memory o old new said fine = (record { count = 0; written = Appends-nil o.written }, (refl, fine))

-- one text, and then another
pub says_then : (from mid to : Output) (old text new a b : List ℕ) (r : Result (Unit {0}) RunFault) → Added from mid old text a → Says mid to text new b r → Says from to old new (a ++ b) r
says_then from mid to old text new a b (Ok done) x y = added_then from mid to old text new a b x y
says_then from mid to old text new a b (Err why) x y =
    (front_then from mid to old text a b [] (a ++ b) x y.0 (ap (λ (l : List ℕ). a ++ l) (sym (append-nil b))), y.1)

-- one text, and then the run was given up in another, of which there is more
pub cut_then : (from mid to : Output) (old text new a b rest whole : List ℕ) (why : RunFault) → Added from mid old text a → Says mid to text new b (Err why)
    → whole ≡ a ++ (b ++ rest) → Says from to old new whole (Err why)
cut_then from mid to old text new a b rest whole why x y e = (front_then from mid to old text a b rest whole x y.0 e, y.1)

-- the same text
pub says_same : (from to : Output) (old new a b : List ℕ) (r : Result (Unit {0}) RunFault) → a ≡ b → Says from to old new a r → Says from to old new b r
says_same from to old new a b r e s = subst (λ (x : List ℕ). Says from to old new x r) e s
