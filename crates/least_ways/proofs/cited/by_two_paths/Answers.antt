use Rattle.std.proofs.Common.{◌≡◌, ◌⊎◌, refl, sym, ap, ℕ, zero, suc, List, [], ◌∷◌, Some, slice_get, inl, inr}
use Rattle.ipx_internet.specs.Internet.{Place}
use Rattle.ipx_internet.proofs.lists.FoundInAList.{nothing, it_is}
use Rattle.least_ways.proofs.cited.by_two_paths.Goals as goal

abbrev Path : Type 0
Path = List Place

-- a path of two is one of them
of_two : (one two path : Path) (k : ℕ) → slice_get (one ∷ two ∷ []) k ≡ Some path → (path ≡ one) ⊎ (path ≡ two)
of_two one two path zero there = inl (it_is (λ (p : Path). p ≡ one) path one there refl)
of_two one two path (suc zero) there = inr (it_is (λ (p : Path). p ≡ two) path two there refl)
of_two one two path (suc (suc k)) there = nothing there

either : (one two path : Path) → (path ≡ one) ⊎ (path ≡ two) → (k : ℕ) × (slice_get (one ∷ two ∷ []) k ≡ Some path)
either one two path (inl e) = (0, ap (λ (p : Path). Some p) (sym e))
either one two path (inr e) = (1, ap (λ (p : Path). Some p) (sym e))

pub returns : goal.returns
returns c routers from to bytes p n one two made right are is all deep apart paths =
    c.each_path_once.ensures.as_many routers from to bytes p n (one ∷ two ∷ []) made right are is all deep (((λ e. apart (sym e)), tt), (tt, tt))
    (λ path. (
      λ there. (paths path).0 (of_two one two path there.0 there.1),
      λ crossing. either one two path ((paths path).1 crossing),
    ))
