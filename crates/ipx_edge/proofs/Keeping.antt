-- Entries that pass are moved to the front, one after another.
use Rattle.std.proofs.Common.{◌≡◌, ◌∙◌, refl, sym, subst, ap, ap₂, arith, ℕ, zero, suc, ◌+◌, ◌-◌, ◌*◌, ◌<◌, ◌≤◌, Bool, true, false, List, [], ◌∷◌, ◌++◌, length, take, drop, append-nil, append_assoc, length-append, take-add}
use Rattle.std.specs.List.{filter, concat}
use Rattle.std.proofs.lemmas.List.{drop-drop}
use Rattle.std.proofs.lemmas.List.Elements.{filter-append}
use Rattle.std.proofs.Math.Nat.{mul-suc}
use Rattle.ipx_wire.specs.Items.{items}
use Rattle.ipx_wire.specs.Piece.{piece}
use Rattle.ipx_wire.proofs.Pieces.{length-piece}
use Rattle.ipx_edge.specs.Places.{with_at}
use Rattle.ipx_edge.specs.declared.listing.Listed.{Listed}
use Rattle.ipx_edge.specs.declared.listing.Listed.TheVariants.{Routes, Services}
use Rattle.ipx_edge.specs.inside.Verdict.{size_of, first, Keeps}
use Rattle.ipx_edge.proofs.Pieces.{length_with, front_with, back_with, piece_with}

-- ---- one piece more

items_more : {E : Type 0} (read : List ℕ → E) (size n : ℕ) (bytes : List ℕ)
    → items read size (suc n) bytes ≡ items read size n bytes ++ read (drop (size * n) bytes) ∷ []
unfolding items
items_more {E} read size zero bytes =
    let none : 0 ≡ size * 0 = omega arith in
    ap (λ (m : ℕ). read (drop m bytes) ∷ []) none
items_more {E} read size (suc n) bytes =
    let order : size + size * n ≡ size * suc n = omega (arith, mul-suc size n) in
    ap (λ (xs : List E). read bytes ∷ xs)
    (items_more read size n (drop size bytes)
    ∙ ap (λ (l : List ℕ). items read size n (drop size bytes) ++ read l ∷ []) (drop-drop (size * n) size bytes ∙ ap (λ (m : ℕ). drop m bytes) order))

concat-append : (xs ys : List (List ℕ)) → concat (xs ++ ys) ≡ concat xs ++ concat ys
concat-append [] ys = refl
concat-append (x ∷ xs) ys = ap (λ (l : List ℕ). x ++ l) (concat-append xs ys) ∙ sym (append_assoc x (concat xs) (concat ys))

-- ---- the steps

pub start : (passes : List ℕ → Bool) (size : ℕ) (bytes : List ℕ) → Keeps passes size 0 bytes bytes 32 32
unfolding items
start passes size bytes =
    let none : 32 ≡ 32 + size * 0 = omega arith in
    record {
      from_is = none;
      to_is = none;
      order = omega arith;
      front = sym (append-nil (take 32 bytes));
      rest = refl;
      same = λ e. refl;
      none = λ e. refl;
      long = refl;
    }

module _ (passes : List ℕ → Bool) (size k : ℕ) (old now : List ℕ) (from to : ℕ) (is : Keeps passes size k old now from to) where
  abbrev kept : List (List ℕ)
  kept = filter passes (first size k old)

  abbrev entry : List ℕ
  entry = piece now from size

  entry_is : entry ≡ take size (drop (size * k) (drop 32 old))
  entry_is = ap (take size) (is.rest ∙ ap (λ (m : ℕ). drop m old) is.from_is ∙ sym (drop-drop (size * k) 32 old))

  kept_more : filter passes (first size (k + 1) old) ≡ kept ++ filter passes (entry ∷ [])
  kept_more =
      ap (λ (m : ℕ). filter passes (first size m old)) (let one : k + 1 ≡ suc k = omega arith in one)
      ∙ ap (filter passes) (items_more (take size) size k (drop 32 old))
      ∙ filter-append passes (first size k old) (take size (drop (size * k) (drop 32 old)) ∷ [])
      ∙ ap (λ (e : List ℕ). kept ++ filter passes (e ∷ [])) (sym entry_is)

  next_from : from + size ≡ 32 + size * (k + 1)
  next_from = omega (arith, is.from_is, mul-suc size k)

  next_rest : (new : List ℕ) → drop from new ≡ drop from now → drop (from + size) new ≡ drop (from + size) old
  next_rest new e = sym (drop-drop size from new) ∙ ap (drop size) (e ∙ is.rest) ∙ drop-drop size from old

  -- it doesn't pass
  denied : passes entry ≡ false → kept ++ filter passes (entry ∷ []) ≡ kept
  denied fails = rw fails (append-nil kept)

  pub leaves : 0 < size → passes entry ≡ false → Keeps passes size (k + 1) old now (from + size) to
  leaves some fails =
      let same_kept : filter passes (first size (k + 1) old) ≡ kept = kept_more ∙ denied fails in
      record {
        from_is = next_from;
        to_is = is.to_is ∙ ap (λ (es : List (List ℕ)). 32 + size * length es) (sym same_kept);
        order = omega (arith, is.order);
        front = is.front ∙ ap (λ (es : List (List ℕ)). take 32 old ++ concat es) (sym same_kept);
        rest = next_rest now refl;
        same = λ e. absurd (omega (arith, is.order, some, e));
        none = is.none;
        long = is.long;
      }

  -- it passes
  permitted : passes entry ≡ true → kept ++ filter passes (entry ∷ []) ≡ kept ++ entry ∷ []
  permitted holds = rw holds refl

  -- it stands behind those that are kept, and the rest as it did
  module _ (some : 0 < size) (new : List ℕ) (holds : passes entry ≡ true) (before : take to new ≡ take to now) (there : piece new to size ≡ entry)
      (behind : drop (from + size) new ≡ drop (from + size) now) (unmoved : to ≡ from → new ≡ now) (long : length new ≡ length now) where
    more : filter passes (first size (k + 1) old) ≡ kept ++ entry ∷ []
    more = kept_more ∙ permitted holds

    joined : (a e : List ℕ) (es : List (List ℕ)) → (a ++ concat es) ++ e ≡ a ++ concat (es ++ e ∷ [])
    joined a e es =
        append_assoc a (concat es) e
        ∙ ap (λ (l : List ℕ). a ++ (concat es ++ l)) (sym (append-nil e))
        ∙ ap (λ (l : List ℕ). a ++ l) (sym (concat-append es (e ∷ [])))

    pub takes : Keeps passes size (k + 1) old new (from + size) (to + size)
    takes =
        let one : length (kept ++ entry ∷ []) ≡ length kept + 1 = length-append kept (entry ∷ []) in
        let count : length (filter passes (first size (k + 1) old)) ≡ length kept + 1 = ap length more ∙ one in
        let grown : size * (length kept + 1) ≡ size + size * length kept = omega (arith, mul-suc size (length kept)) in
        record {
          from_is = next_from;
          to_is = (let e : to + size ≡ 32 + size * (length kept + 1) = omega (arith, is.to_is, grown) in e) ∙ ap (λ (m : ℕ). 32 + size * m) (sym count);
          order = omega (arith, is.order);
          front =
              take-add to size new
              ∙ ap₂ (λ (a b : List ℕ). a ++ b) (before ∙ is.front) there
              ∙ joined (take 32 old) entry kept
              ∙ ap (λ (es : List (List ℕ)). take 32 old ++ concat es) (sym more);
          rest = behind ∙ next_rest now refl;
          same = λ e. let level : to ≡ from = omega (arith, e) in unmoved level ∙ is.same level;
          none = λ e. absurd (omega (arith, e, is.to_is, some));
          long = long ∙ is.long;
        }

  -- where it stands there already
  pub stays : 0 < size → passes entry ≡ true → from ≤ to → Keeps passes size (k + 1) old now (from + size) (to + size)
  stays some holds far =
      let level : to ≡ from = omega (arith, is.order, far) in
      takes some now holds refl (ap (λ (m : ℕ). piece now m size) level) refl (λ e. refl) refl

  -- where it is moved
  pub moves : 0 < size → passes entry ≡ true → to < from → length entry ≡ size → from + size ≤ length now
      → Keeps passes size (k + 1) old (with_at to entry now) (from + size) (to + size)
  moves some holds near many room =
      let fits : to + length entry ≤ length now = omega (arith, many, near, room) in
      let end = to + length entry in
      let whole : from + size ≡ end + (from + size - end) = omega (arith, many, near) in
      takes some (with_at to entry now) holds
      (front_with to entry now fits)
      (piece_with to entry now fits size many)
      (ap (λ (m : ℕ). drop m (with_at to entry now)) whole
      ∙ sym (drop-drop (from + size - end) end (with_at to entry now))
      ∙ ap (drop (from + size - end)) (back_with to entry now fits)
      ∙ drop-drop (from + size - end) end now
      ∙ ap (λ (m : ℕ). drop m now) (sym whole))
      (λ e. absurd (omega (arith, e, near)))
      (length_with to entry now fits)

-- ---- a move within bytes

pub copied : (bytes : List ℕ) (from size to : ℕ) → from + size ≤ length bytes
    → take to bytes ++ take (from + size - from) (drop from bytes) ++ drop (to + (from + size - from)) bytes ≡ with_at to (piece bytes from size) bytes
unfolding with_at
copied bytes from size to room =
    let count : from + size - from ≡ size = omega arith in
    let many : length (piece bytes from size) ≡ size = length-piece bytes from size room in
    ap (λ (n : ℕ). take to bytes ++ take n (drop from bytes) ++ drop (to + n) bytes) count
    ∙ ap (λ (n : ℕ). take to bytes ++ piece bytes from size ++ drop (to + n) bytes) (sym many)

-- ---- the steps as the code makes them, whose size is the entries'

module _ (passes : List ℕ → Bool) (size k : ℕ) (old now : List ℕ) (from to : ℕ) (is : Keeps passes size k old now from to)
    (n : ℕ) (n_is : n ≡ size) (room : from + n ≤ length now) (r : Bool) (r_is : r ≡ passes (take (from + n - from) (drop from now))) where
  same_keeps : (j : ℕ) (new : List ℕ) (a b c d : ℕ) → Keeps passes size j old new a b → c ≡ a → d ≡ b → Keeps passes size j old new c d
  same_keeps j new a b c d keeps one other =
      subst (λ (m : ℕ). Keeps passes size j old new m d) (sym one) (subst (λ (m : ℕ). Keeps passes size j old new a m) (sym other) keeps)

  verdict_is : passes (piece now from size) ≡ r
  verdict_is =
      let count : size ≡ from + n - from = omega (arith, n_is) in
      ap (λ (m : ℕ). passes (take m (drop from now))) count ∙ sym r_is

  pub loses : 0 < size → r ≡ false → (new : List ℕ) (next : ℕ) → new ≡ now → next ≡ to → Keeps passes size (k + 1) old new (from + n) next
  loses some fails new next new_is next_is =
      subst (λ (l : List ℕ). Keeps passes size (k + 1) old l (from + n) next) (sym new_is)
      (same_keeps (k + 1) now (from + size) to (from + n) next (leaves passes size k old now from to is some (verdict_is ∙ fails)) (omega (arith, n_is)) next_is)

  pub holds_there : 0 < size → r ≡ true → from ≤ to → (new : List ℕ) (next : ℕ) → new ≡ now → next ≡ to + n → Keeps passes size (k + 1) old new (from + n) next
  holds_there some holds far new next new_is next_is =
      subst (λ (l : List ℕ). Keeps passes size (k + 1) old l (from + n) next) (sym new_is)
      (same_keeps (k + 1) now (from + size) (to + size) (from + n) next (stays passes size k old now from to is some (verdict_is ∙ holds) far) (omega (arith, n_is))
      (next_is ∙ (let e : to + n ≡ to + size = omega (arith, n_is) in e)))

  pub moves_down : 0 < size → r ≡ true → to < from → (new : List ℕ) (next : ℕ) → new ≡ with_at to (piece now from n) now → next ≡ to + n
      → Keeps passes size (k + 1) old new (from + n) next
  moves_down some holds near new next new_is next_is =
      let wide : from + size ≤ length now = omega (arith, room, n_is) in
      subst (λ (l : List ℕ). Keeps passes size (k + 1) old l (from + n) next) (sym (new_is ∙ ap (λ (m : ℕ). with_at to (piece now from m) now) n_is))
      (same_keeps (k + 1) (with_at to (piece now from size) now) (from + size) (to + size) (from + n) next
      (moves passes size k old now from to is some (verdict_is ∙ holds) near (length-piece now from size wide) wide) (omega (arith, n_is))
      (next_is ∙ (let e : to + n ≡ to + size = omega (arith, n_is) in e)))

-- an entry has bytes
pub some_size : (listed : Listed) → 0 < size_of listed
some_size Routes = omega arith
some_size Services = omega arith
