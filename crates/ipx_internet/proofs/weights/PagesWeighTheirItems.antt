-- What the pages of a list weigh together: as much as its items, and each page itself.
use Rattle.std.proofs.lemmas.Grind.{common_steps}
use Rattle.std.proofs.Common.{◌≡◌, ap, ℕ, ◌+◌, ◌*◌, ◌<◌, ◌≤◌, List, [], ◌∷◌, ◌++◌, length, map, flat_map, inl, inr, arith}
use Rattle.std.specs.List.{AllByRecursion, sum_by}
use Rattle.std.proofs.lemmas.Bool.{cases_lt}
use Rattle.std.proofs.lemmas.List.Sums.{sum_by-cons, sum_by-append, sum_by_push}
use Rattle.ipx_router.specs.Pages.{pages_from, pages, sheets}
use Rattle.ipx_router.proofs.lists.CountOfPages.{room_left, page_full, length-pages}

-- ---- sums

module _ {X : Type 0} where
  -- each a bit more
  pub sum_one_more : (f : X → ℕ) (xs : List X) → sum_by (λ x. 1 + f x) xs ≡ length xs + sum_by f xs
  sum_one_more f [] = omega arith
  sum_one_more f (x ∷ xs) = omega (arith, sum_one_more f xs, sum_by-cons)

  -- each at most as much
  pub sum_each : (f g : X → ℕ) (xs : List X) → AllByRecursion (λ x. f x ≤ g x) xs → sum_by f xs ≤ sum_by g xs
  sum_each f g [] all = omega arith
  sum_each f g (x ∷ xs) all = omega (arith, sum_each f g xs all.1, sum_by-cons)

  -- as many times as much as each is at most
  pub sum_few : (w : X → ℕ) (most : ℕ) (xs : List X) → AllByRecursion (λ x. w x ≤ most) xs → sum_by w xs ≤ length xs * most
  sum_few w most [] all = omega arith
  sum_few w most (x ∷ xs) all = omega (arith, sum_few w most xs all.1, sum_by-cons)

  -- two sums in one
  pub sum_both : (f g : X → ℕ) (xs : List X) → sum_by (λ x. f x + g x) xs ≡ sum_by f xs + sum_by g xs
  sum_both f g [] = omega arith
  sum_both f g (x ∷ xs) = omega (arith, sum_both f g xs, sum_by-cons)

  -- of images
  pub sum_mapped : {Y : Type 0} (w : Y → ℕ) (f : X → Y) (xs : List X) → sum_by w (map f xs) ≡ sum_by (λ x. w (f x)) xs
  sum_mapped w f xs = grind (arith, common_steps, sum_by-cons)

  -- of lists made of lists
  pub sum_flat : {Y : Type 0} (w : Y → ℕ) (f : X → List Y) (xs : List X) → sum_by w (flat_map f xs) ≡ sum_by (λ x. sum_by w (f x)) xs
  sum_flat w f [] = omega arith
  sum_flat w f (x ∷ xs) = omega (arith, sum_flat w f xs, sum_by-append, sum_by-cons)

-- ---- pages

module _ {X : Type 0} (w : X → ℕ) where
  abbrev of_page : List X → ℕ
  of_page page = sum_by w page

  paged_from : (n : ℕ) (page xs : List X) → 0 < n → sum_by of_page (pages_from n page xs) ≡ sum_by w page + sum_by w xs
  paged_from n [] [] some = omega arith
  paged_from n (p ∷ page) [] some = let one = sum_by-cons of_page (p ∷ page) [] in omega (arith, one)
  paged_from n [] (x ∷ xs) some =
      let next = ap (sum_by of_page) (room_left n [] x xs some) in
      let rest = paged_from n (x ∷ []) xs some in
      let one = sum_by-cons w x xs in
      let single = sum_by-cons w x [] in
      omega (arith, next, rest, one, single)
  paged_from n (p ∷ page) (x ∷ xs) some = elim (cases_lt (length (p ∷ page)) n) [
    | inl room ↦
        let next = ap (sum_by of_page) (room_left n (p ∷ page) x xs room) in
        let rest = paged_from n ((p ∷ page) ++ x ∷ []) xs some in
        let more = sum_by_push w (p ∷ page) x in
        let one = sum_by-cons w x xs in
        omega (arith, next, rest, more, one)
    | inr full ↦
        let next = ap (sum_by of_page) (page_full n p page x xs full) in
        let rest = paged_from n (x ∷ []) xs some in
        let first = sum_by-cons of_page (p ∷ page) (pages_from n (x ∷ []) xs) in
        let one = sum_by-cons w x xs in
        let single = sum_by-cons w x [] in
        omega (arith, next, rest, first, one, single)
  ]

  -- pages have the items of the list
  pub paged : (n : ℕ) (xs : List X) → 0 < n → sum_by of_page (pages n xs) ≡ sum_by w xs
  paged n xs some = let all = paged_from n [] xs some in omega (arith, all)

  -- with one for each page
  pub paged_one_more : (n most : ℕ) (xs : List X) → 0 < n → length xs ≤ most → sum_by (λ page. 1 + sum_by w page) (pages n xs) ≤ sheets n most + sum_by w xs
  paged_one_more n most xs some few =
      let count = length-pages n most xs some few in
      let each = sum_one_more of_page (pages n xs) in
      let items = paged n xs some in
      omega (arith, count, each, items)
