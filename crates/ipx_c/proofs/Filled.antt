-- A list whose front is filled with what is made of another, element by element.
use Rattle.std.proofs.Common.{◌≡◌, ◌∙◌, sym, ap, ℕ, ◌+◌, ◌<◌, List, [], ◌∷◌, ◌++◌, length, map, take, drop, get_or, set, append_assoc, arith, length-take-le}
use Rattle.std.proofs.lemmas.List.{map_more, length-map, drop_more, set_at, take_all}

module _ {X Y : Type 0} (f : X → Y) (xs : List X) (old : List Y) where
  abbrev pub Filled : ℕ → List Y → Type 0
  Filled i ys = ys ≡ map f (take i xs) ++ drop i old

  pub filled_more : (i : ℕ) (ys : List Y) (d : X) → i < length xs → i < length old → Filled i ys → Filled (i + 1) (set ys i (f (get_or xs i d)))
  filled_more i ys d within room filled =
      let y = f (get_or xs i d) in
      let long : length (map f (take i xs)) ≡ i = grind (arith, length-map, length-take-le) in
      ap (λ (l : List Y). set l i y) (filled ∙ ap (λ (l : List Y). map f (take i xs) ++ l) (drop_more old i (f d) room))
      ∙ set_at (map f (take i xs)) (get_or old i (f d)) (drop (i + 1) old) y i long
      ∙ sym (append_assoc (map f (take i xs)) (y ∷ []) (drop (i + 1) old))
      ∙ ap (λ (l : List Y). l ++ drop (i + 1) old) (sym (map_more f xs i d within))

  pub filled_all : (i : ℕ) (ys : List Y) → i ≡ length xs → Filled i ys → ys ≡ map f xs ++ drop (length xs) old
  filled_all i ys all filled = grind (arith, take_all)
