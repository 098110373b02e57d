use Rattle.std.proofs.lemmas.Grind.{common_steps}
use Rattle.std.proofs.Common.{◌≡◌, ℕ, ◌+◌, ◌≤◌, ◌<◌, List, [], ◌++◌, length, take, drop, sym, ap, ◌∙◌, arith, append_assoc, length-append, length-drop, length-take, subst, get_or, append-nil, take-add}
use Rattle.std.proofs.lemmas.List.{drop-drop, take_at, drop_at, take-append-drop, flat_map_more, take_more}
use Rattle.std.specs.List.{flat_map}
use Rattle.ipx_wire.specs.Piece.{piece}
use Rattle.ipx_wire.specs.Put.{PutsAt}
use Rattle.ipx_wire.proofs.Pieces.{length-piece}

-- how long the written front is
length_front : (old x : List ℕ) (place : ℕ) → place + length x ≤ length old → length (take place old ++ x) ≡ place + length x
length_front old x place room = omega (arith, length-append (take place old) x, length-take place old)

-- the front of what a write left is what stood there and what was written
front : (old x new : List ℕ) (place : ℕ) → PutsAt old place x new → take (place + length x) new ≡ take place old ++ x
front old x new place puts = grind (arith, take_at, length_front)

-- behind a write all is as before
behind : (old x new : List ℕ) (place n : ℕ) → PutsAt old place x new → drop (place + length x + n) new ≡ drop (place + length x + n) old
behind old x new place n puts =
    sym (drop-drop n (place + length x) new)
    ∙ ap (drop n) (rw puts.after (drop_at (take place old ++ x) (drop (place + length x) old) (place + length x) (length_front old x place puts.room)))
    ∙ drop-drop n (place + length x) old

-- a write keeps the length
pub length_after : (old x new : List ℕ) (place : ℕ) → PutsAt old place x new → length new ≡ length old
length_after old x new place puts = grind (arith, length-append, length_front, length-drop)

-- a write and one behind it, at places given by lengths
joined : (old mid new x y : List ℕ) (place : ℕ) → PutsAt old place x mid → PutsAt mid (place + length x) y new → PutsAt old place (x ++ y) new
joined old mid new x y place first second =
    let size : length (x ++ y) ≡ length x + length y = length-append x y in
    let whole : place + length (x ++ y) ≡ place + length x + length y = omega (arith, size) in
    let same = length_after old x mid place first in
    let room = second.room in
    record {
      room = omega (arith, whole, same, room);
      after =
          second.after
          ∙ ap (λ (z : List ℕ). z ++ y ++ drop (place + length x + length y) mid) (front old x mid place first)
          ∙ ap (λ (z : List ℕ). take place old ++ x ++ y ++ z) (behind old x mid place (length y) first)
          ∙ ap (λ (z : List ℕ). z ++ drop (place + length x + length y) old) (append_assoc (take place old) x y)
          ∙ ap (λ (k : ℕ). take place old ++ (x ++ y) ++ drop k old) (sym whole);
    }

-- two writes, the second where the first ended, are one
pub then : {old mid new x y : List ℕ} {place next : ℕ} → PutsAt old place x mid → PutsAt mid next y new → next ≡ place + length x
    → PutsAt old place (x ++ y) new
then {old} {mid} {new} {x} {y} {place} {next} first second e =
    joined old mid new x y place first (subst (λ (k : ℕ). PutsAt mid k y new) e second)

-- a write from the front on, with what follows it
pub whole_put : (old x new : List ℕ) (n : ℕ) → PutsAt old 0 x new → length x ≡ n → new ≡ x ++ drop n old
whole_put old x new n puts size = grind arith

-- nothing written yet
pub puts_none : (old : List ℕ) (place : ℕ) → place ≤ length old → PutsAt old place [] old
puts_none old place room = grind (arith, append-nil, take-append-drop)

-- one more piece behind those that were written
pub puts_more : {X : Type 0} (f : X → List ℕ) (xs : List X) (i : ℕ) (d : X) (old mid new : List ℕ) (place next : ℕ) → i < length xs
    → PutsAt old place (flat_map f (take i xs)) mid → PutsAt mid next (f (get_or xs i d)) new
    → next ≡ place + length (flat_map f (take i xs)) → PutsAt old place (flat_map f (take (i + 1) xs)) new
puts_more f xs i d old mid new place next below first second e =
    subst (λ (bytes : List ℕ). PutsAt old place bytes new)
    (flat_map_more f [] (take i xs) (get_or xs i d) ∙ ap (flat_map f) (sym (take_more xs i d below)))
    (then first second e)

-- a write at the front
pub puts_front : (old x new : List ℕ) (n : ℕ) → length x ≡ n → n ≤ length old → new ≡ x ++ drop n old → PutsAt old 0 x new
puts_front old x new n size room e = grind arith

-- what stands there is as if it were written
stays : (old : List ℕ) (place n : ℕ) → place + n ≤ length old → PutsAt old place (piece old place n) old
stays old place n room = grind (arith, length-piece, take-add, take-append-drop)

-- writes from the front on, and how many bytes they reach
pub record Reaches (old : List ℕ) (n : ℕ) (x new : List ℕ) : Type 0 where
  pub puts : PutsAt old 0 x new
  pub size : length x ≡ n

-- behind them all is as before
pub untouched : {old x new : List ℕ} {n : ℕ} → Reaches old n x new → drop n new ≡ drop n old
untouched {old} {x} {new} {n} front = grind (arith, common_steps, behind)

-- a write some bytes behind them, which stay
pub skip : {old mid new x y : List ℕ} {n place : ℕ} (k m : ℕ) → Reaches old n x mid → PutsAt mid place y new → place ≡ n + k
    → m ≡ place + length y → Reaches old m (x ++ piece old n k ++ y) new
skip {old} {mid} {new} {x} {y} {n} {place} k m front puts here there =
    let same = length_after old x mid 0 front.puts in
    let room = puts.room in
    let size = front.size in
    let long = length-piece old n k (omega (arith, same, room, here)) in
    let kept : PutsAt mid n (piece old n k) mid =
    subst (λ (z : List ℕ). PutsAt mid n z mid) (ap (take k) (untouched front)) (stays mid n k (omega (arith, room, here))) in
    let whole = length-append x (piece old n k) in
    record {
      puts = then (then front.puts kept (omega (arith, size))) puts (omega (arith, whole, long, size, here));
      size = omega (arith, length-append (x ++ piece old n k) y, whole, long, size, here, there);
    }

-- all of what writes from the front on left
pub reached : {old x new : List ℕ} {n : ℕ} → Reaches old n x new → new ≡ x ++ drop n old
reached {old} {x} {new} {n} front = whole_put old x new n front.puts front.size
