-- Lists whose items change one after the other.
use Rattle.std.proofs.Common.{◌≡◌, ◌∙◌, ap, arith, ℕ, ◌+◌, ◌<◌, ◌≤◌, List, ◌++◌, map, take, drop, set, get_or, length, length-append, length-drop}
use Rattle.std.proofs.lemmas.List.{length-map, length-take-le, get_or_default}
use Rattle.std.proofs.lemmas.List.Edits.{map_over_more}

-- the first items have changed
pub record MapsInPlace {X : Type 0} (f : X → X) (old new : List X) (index : ℕ) : Type 0 where
  pub is : new ≡ map f (take index old) ++ drop index old

long : {X : Type 0} (f : X → X) (old : List X) (index : ℕ) → index ≤ length old → length (map f (take index old) ++ drop index old) ≡ length old
long f old index within =
    let front = length-map (take index old) f ∙ length-take-le index old within in
    let rest = length-drop index old in
    let all = length-append (map f (take index old)) (drop index old) in
    omega (arith, front, rest, all)

pub one_more : {X : Type 0} {f : X → X} {old new : List X} {index : ℕ} → MapsInPlace f old new index → index < length old → (d y : X) → y ≡ f (get_or new index d)
    → MapsInPlace f old (set new index y) (index + 1)
one_more {f = f} {old = old} {new = new} {index = index} m within d y changed =
    let there : index < length new = omega (arith, ap length m.is, long f old index (omega arith)) in
    let x = get_or new index d in
    let step = map_over_more f old new index x within m.is (get_or_default new index d x there) in
    record { is = ap (λ z. set new index z) changed ∙ step }
