-- Items that are put among others in their order: which of all comes first.
use Rattle.std.proofs.Common.{arith}
use Rattle.std.proofs.Common.{◌≡◌, refl, ap, ◌∙◌, Bool, true, false, List, [], ◌∷◌, ◌++◌, map}
use Rattle.std.specs.List.{AllByRecursion}
use Rattle.ipx_router.specs.Sorted.{put, put_all, sorted}
use Rattle.ipx_router.proofs.lists.EachElement.{all_then, all_placed}

module _ {X : Type 0} (comes_before : X → X → Bool) where
  -- of two items at most one comes before the other, and to come before none of two goes on to a third
  pub record IsOrder : Type 0 where
    pub one_way : (a b : X) → comes_before a b ≡ true → comes_before b a ≡ false
    pub through : (a b c : X) → comes_before a b ≡ false → comes_before b c ≡ false → comes_before a c ≡ false

  -- none of the items comes before this one
  abbrev pub IsFirst : X → List X → Type 0
  IsFirst x xs = AllByRecursion (λ y. comes_before y x ≡ false) xs

  -- no item comes before one that stands in front of it
  abbrev pub Rises : List X → Type 0
  Rises [] = Unit
  Rises (x ∷ xs) = IsFirst x xs × Rises xs

  -- ---- what comes first

  -- the first one that is placed stays in front of all that don't come before it
  pub put_behind : (d : X) (ds es : List X) → IsFirst d es → put_all comes_before (d ∷ ds) es ≡ d ∷ put_all comes_before ds es
  put_behind d ds [] first = refl
  put_behind d ds (e ∷ es) first = let behind = first.0 in rw behind (put_behind d (put comes_before e ds) es first.1)

  -- an item that comes before the first one that is placed goes in front of it
  pub other_first : (d e : X) (ds es : List X) → Rises (e ∷ es) → comes_before e d ≡ true
      → put_all comes_before (d ∷ ds) (e ∷ es) ≡ e ∷ put_all comes_before (d ∷ ds) es
  other_first d e ds es rise less = rw less (put_behind e (d ∷ ds) es rise.0)

  -- and where none is placed it is the first
  pub other_alone : (e : X) (es : List X) → Rises (e ∷ es) → put_all comes_before [] (e ∷ es) ≡ e ∷ put_all comes_before [] es
  other_alone e es rise = put_behind e [] es rise.0

  -- what rises is in its order
  pub sorted-rising : (es : List X) → Rises es → sorted comes_before es ≡ es
  sorted-rising [] rise = refl
  sorted-rising (e ∷ es) rise = other_alone e es rise ∙ ap (λ (l : List X). e ∷ l) (sorted-rising es rise.1)

  -- ---- one list placed, and then another

  pub put_all-append : (placed xs ys : List X) → put_all comes_before placed (xs ++ ys) ≡ put_all comes_before (put_all comes_before placed xs) ys
  put_all-append placed [] ys = refl
  put_all-append placed (x ∷ xs) ys = put_all-append (put comes_before x placed) xs ys

  pub sorted-append : (xs ys : List X) → sorted comes_before (xs ++ ys) ≡ put_all comes_before (sorted comes_before xs) ys
  sorted-append xs ys = put_all-append [] xs ys

  -- what rises needs no placing before others are placed in it
  pub sorted-more : (xs ys : List X) → Rises xs → sorted comes_before (xs ++ ys) ≡ put_all comes_before xs ys
  sorted-more xs ys rise = sorted-append xs ys ∙ ap (λ (l : List X). put_all comes_before l ys) (sorted-rising xs rise)

  -- ---- in an order

  module _ (order : IsOrder) where
    -- what comes before none of an item comes before none of those that don't come before it
    pub first_of_all : (d e : X) (es : List X) → comes_before e d ≡ false → IsFirst e es → IsFirst d (e ∷ es)
    first_of_all d e es more first = grind (arith, all_then)

    -- the first one that is placed stays in front of what rises from an item that doesn't come before it
    pub waiting_first : (d e : X) (ds es : List X) → Rises (e ∷ es) → comes_before e d ≡ false
        → put_all comes_before (d ∷ ds) (e ∷ es) ≡ d ∷ put_all comes_before ds (e ∷ es)
    waiting_first d e ds es rise more = put_behind d ds (e ∷ es) (first_of_all d e es more rise.0)

    rises-put : (x : X) (ys : List X) → Rises ys → Rises (put comes_before x ys)
    rises-put x [] rise = (tt, tt)
    rises-put x (y ∷ ys) rise = grind (arith, rises-put x ys rise.1, first_of_all, all_placed)

    -- what is put among what rises
    pub rises-put_all : (placed xs : List X) → Rises placed → Rises (put_all comes_before placed xs)
    rises-put_all placed [] rise = rise
    rises-put_all placed (x ∷ xs) rise = rises-put_all (put comes_before x placed) xs (rises-put x placed rise)

    pub rises-sorted : (xs : List X) → Rises (sorted comes_before xs)
    rises-sorted xs = rises-put_all [] xs tt

-- what rises still does where each item is read another way, with no other order
pub rises-map : {X Y : Type 0} (one : X → X → Bool) (other : Y → Y → Bool) (f : X → Y) → ((a b : X) → one a b ≡ false → other (f a) (f b) ≡ false)
    → (xs : List X) → Rises one xs → Rises other (map f xs)
rises-map one other f same [] rise = tt
rises-map one other f same (x ∷ xs) rise = (each xs rise.0, rises-map one other f same xs rise.1)
  where
    each : (ys : List _) → IsFirst one x ys → IsFirst other (f x) (map f ys)
    each [] first = tt
    each (y ∷ ys) first = (same y x first.0, each ys first.1)
