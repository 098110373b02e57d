-- Which of two sources yields the next item.
use Rattle.std.proofs.Common.{arith}
use Rattle.std.proofs.Common.{◌≡◌, sym, ap, ◌∙◌, Bool, true, false, not, List, [], ◌∷◌, Option, None, Some, true≢false}
use Rattle.ipx_router.specs.Sorted.{put_all}
use Rattle.ipx_router.specs.inside.Sources.{first_then, waits_before}
use Rattle.ipx_router.proofs.lists.PutInOrder.{IsOrder, Rises, other_first, other_alone, waiting_first}

module _ {X : Type 0} (comes_before : X → X → Bool) where
  -- the next one of those that wait is the next of all
  pub waiting_next : IsOrder comes_before → (waiting left es : List X) (r : Option X) (e : X) → Rises comes_before (e ∷ es)
      → waits_before comes_before e waiting ≡ true → waiting ≡ first_then r left
      → put_all comes_before waiting (e ∷ es) ≡ first_then r (put_all comes_before left (e ∷ es))
  waiting_next order waiting left es None e rise waits is = absurd (true≢false (sym waits ∙ ap (waits_before comes_before e) is))
  waiting_next order waiting left es (Some d) e rise waits is =
      ap (λ (w : List X). put_all comes_before w (e ∷ es)) is
      ∙ waiting_first comes_before order d e left es rise (not_true (comes_before e d) (sym (ap (waits_before comes_before e) is) ∙ waits))
    where
      not_true : (b : Bool) → not b ≡ true → b ≡ false
      not_true b n = grind arith

  -- the next one of the others is the next of all
  pub other_next : (waiting es : List X) (e : X) → Rises comes_before (e ∷ es) → waits_before comes_before e waiting ≡ false
      → put_all comes_before waiting (e ∷ es) ≡ e ∷ put_all comes_before waiting es
  other_next [] es e rise waits = other_alone comes_before e es rise
  other_next (d ∷ ds) es e rise waits = other_first comes_before d e ds es rise (not_false (comes_before e d) waits)
    where
      not_false : (b : Bool) → not b ≡ false → b ≡ true
      not_false b n = grind arith
