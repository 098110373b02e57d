-- Texts that grow by one item of a list after another.
use Rattle.std.proofs.Common.{◌≡◌, ℕ, zero, suc, ◌+◌, ◌<◌, ◌≤◌, List, [], ◌∷◌, ◌++◌, length, take, drop, slice_get, None, Some, is_some, sym, ap, ◌∙◌, arith, append_assoc, append-nil}
use Rattle.std.proofs.lemmas.Bool.{true≢false}
use Rattle.std.proofs.lemmas.List.{flat_map_more, take_more, take-append-drop}
use Rattle.std.proofs.lemmas.List.Concat.{flat_map-append}
use Rattle.std.proofs.lemmas.Option.{slice_get_within, get_or_from_slice_get}
use Rattle.std.specs.List.{flat_map}
use Rattle.ipx_cmd.proofs.written.NoRoomForTheWhole.{full}

-- the items up to a place, and the one there
pub listed_next : {X : Type 0} (xs : List X) (k : ℕ) (x : X) → slice_get xs k ≡ Some x → take (k + 1) xs ≡ take k xs ++ x ∷ []
listed_next xs k x e =
    take_more xs k x (slice_get_within xs k x e) ∙ ap (λ y. take k xs ++ y ∷ []) (get_or_from_slice_get xs k x x e)

-- a text that has the items up to a place gets the one there
pub listed_more : {X : Type 0} (f : X → List ℕ) (xs : List X) (k : ℕ) (x : X) (start now after : List ℕ) → slice_get xs k ≡ Some x
    → now ≡ start ++ flat_map f (take k xs) → after ≡ now ++ f x → after ≡ start ++ flat_map f (take (k + 1) xs)
listed_more f xs k x start now after e has gained = grind (arith, flat_map_more, listed_next)

-- before the end there is an item
pub not_past : {X : Type 0} (xs : List X) (k : ℕ) → slice_get xs k ≡ None → k < length xs → ⊥
not_past [] k e below = omega (arith, below)
not_past (x ∷ xs) zero e below = true≢false (ap is_some e)
not_past (x ∷ xs) (suc k) e below = not_past xs k e (omega (arith, below))

-- the items up to a place, the one there, and the rest
listed_split : {X : Type 0} (f : X → List ℕ) (xs : List X) (k : ℕ) (x : X) → slice_get xs k ≡ Some x
    → flat_map f xs ≡ flat_map f (take k xs) ++ (f x ++ flat_map f (drop (k + 1) xs))
listed_split f xs k x e =
    let rest = flat_map f (drop (k + 1) xs) in
    ap (λ l. flat_map f l) (sym (take-append-drop (k + 1) xs)) ∙ flat_map-append f (take (k + 1) xs) (drop (k + 1) xs)
    ∙ ap (λ l. flat_map f l ++ rest) (listed_next xs k x e)
    ∙ ap (λ (t : List ℕ). t ++ rest) (flat_map-append f (take k xs) (x ∷ []) ∙ ap (λ (t : List ℕ). flat_map f (take k xs) ++ t) (append-nil (f x)))
    ∙ append_assoc (flat_map f (take k xs)) (f x) rest

-- where an item finds no room, there was none for the whole
pub listed_full : {X : Type 0} (f : X → List ℕ) (xs : List X) (k : ℕ) (x : X) (start now : List ℕ) (first here : ℕ) → slice_get xs k ≡ Some x
    → now ≡ start ++ flat_map f (take k xs) → first ≤ here → here < length now + length (f x) → first < length start + length (flat_map f xs)
listed_full f xs k x start now first here e has kept none =
    let rest = flat_map f (drop (k + 1) xs) in
    full start (flat_map f xs) now (f x) rest first here
    (ap (λ (t : List ℕ). t ++ (f x ++ rest)) has ∙ append_assoc start (flat_map f (take k xs)) (f x ++ rest) ∙ ap (λ (t : List ℕ). start ++ t) (sym (listed_split f xs k x e)))
    kept none
