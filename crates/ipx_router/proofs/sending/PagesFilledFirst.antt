-- A list that is sent page by page, where each page is filled before it is sent.
use Rattle.std.proofs.Common.{rules}
use Rattle.std.proofs.Common.{◌≡◌, refl, sym, ap, ◌∙◌, subst, ℕ, ◌+◌, ◌<◌, ◌≤◌, List, [], ◌∷◌, ◌++◌, length, map, take, slice_set, false, ◌==◌, arith, append-nil, append_assoc, length-append}
use Rattle.std.proofs.lemmas.Bool.{cases_lt}
use Rattle.std.proofs.lemmas.List.{take_more_set}
use Rattle.std.specs.List.{flat_map}
use Rattle.ipx_router.specs.Outbox.{Contents, Fits, Appends}
use Rattle.ipx_router.specs.inside.Owed.{Pays}
use Rattle.ipx_router.specs.Pages.{pages_from, pages}
use Rattle.ipx_router.specs.Relays.{Sent}
use Rattle.ipx_router.proofs.changes.ListedForEachPort.{one_page}
use Rattle.ipx_router.proofs.lists.CountOfPages.{room_left}
use Rattle.ipx_router.proofs.sending.OneAfterAnother.{fits_front, pays_first, pays_then, still_fits, owed_full}

-- what a page has room for goes into it
filled_from : {X : Type 0} (n : ℕ) (page xs rest : List X) → length page + length xs ≤ n
    → pages_from n page (xs ++ rest) ≡ pages_from n (page ++ xs) rest
filled_from n page [] rest few = ap (λ p. pages_from n p rest) (sym (append-nil page))
filled_from n page (x ∷ xs) rest few =
    room_left n page x (xs ++ rest) (omega (arith, few))
    ∙ filled_from n (page ++ x ∷ []) xs rest (omega (arith, few, length-append page (x ∷ [])))
    ∙ ap (λ p. pages_from n p rest) (append_assoc page (x ∷ []) xs)

module _ {X : Type 0} (n : ℕ) (packet : List X → Sent) (some : 1 ≤ n) where
  -- the packets of a list
  abbrev pub packets_of : List X → List Sent
  packets_of xs = map packet (pages n xs)

  full_page : (p : X) (page : List X) (x : X) (xs : List X) → length (p ∷ page) ≤ n → n ≤ length (p ∷ page)
      → packets_of ((p ∷ page) ++ x ∷ xs) ≡ packets_of (p ∷ page) ++ packets_of (x ∷ xs)
  full_page p page x xs few full =
      ap (map packet) (filled_from n [] (p ∷ page) (x ∷ xs) (omega (arith, few)))
      ∙ owed_full n packet (p ∷ page) x xs some full
      ∙ ap (λ ps. packet (p ∷ page) ∷ ps) (sym (ap (map packet) (room_left n [] x xs some)))
      ∙ ap (λ ps. map packet ps ++ packets_of (x ∷ xs)) (sym (one_page n (p ∷ page) few (omega arith)))

  -- a page with entries is one packet
  pub one_packet : (page : List X) → length page ≤ n → false ≡ (length page == 0) → packets_of page ≡ packet page ∷ []
  one_packet page few filled = grind (arith, one_page)

  -- a page that is full, or behind which nothing is left, is a packet of its own
  page_alone : (page rest : List X) → length page ≤ n → (length page < n → rest ≡ []) → packets_of (page ++ rest) ≡ packets_of page ++ packets_of rest
  page_alone [] rest few last = refl
  page_alone (p ∷ page) [] few last = ap packets_of (append-nil (p ∷ page)) ∙ sym (append-nil (packets_of (p ∷ page)))
  page_alone (p ∷ page) (x ∷ xs) few last = grind (arith, cases_lt, full_page)

  module _ (all left page rest : List X) (whole : left ≡ page ++ rest) (few : length page ≤ n) (last : length page < n → rest ≡ []) {a b : Contents}
      (before : Pays a b (packets_of all) (packets_of left)) where
    parts : packets_of left ≡ packets_of page ++ packets_of rest
    parts = ap packets_of whole ∙ page_alone page rest few last

    -- there is room for the page
    pub filled_fits : Fits a (packets_of all) → Fits b (packets_of page)
    filled_fits fits = fits_front (packets_of page) (packets_of rest) (subst (Fits b) parts (still_fits fits before))

    -- what is owed once it was sent
    pub filled_pays : {c : Contents} → Appends b c (packets_of page) → Pays a c (packets_of all) (packets_of rest)
    filled_pays {c} appends = search (rules, pays_then, parts, pays_first)

-- ---- a page is filled from a source

module _ {X : Type 0} (page : List X) (count : ℕ) (all left later : List X) (x : X) where
  -- with the item that it yields
  pub one_placed : all ≡ take count page ++ left → left ≡ x ∷ later → count < length page → all ≡ take (count + 1) (slice_set page count x) ++ later
  one_placed before yielded room = grind (arith, append_assoc, take_more_set)

-- ---- or with what is sent of that

module _ {X Y : Type 0} (selection : X → List Y) (page : List Y) (count : ℕ) (all left later : List X) (x : X) (yielded : left ≡ x ∷ later)
    (before : flat_map selection all ≡ take count page ++ flat_map selection left) where
  yields : flat_map selection all ≡ take count page ++ (selection x ++ flat_map selection later)
  yields = before ∙ ap (λ l. take count page ++ flat_map selection l) yielded

  -- an item that is sent
  pub one_filled : (y : Y) → y ∷ [] ≡ selection x → count < length page → flat_map selection all ≡ take (count + 1) (slice_set page count y) ++ flat_map selection later
  one_filled y seen room = grind (arith, yields, append_assoc, take_more_set)

  -- an item that isn't
  pub none_filled : [] ≡ selection x → flat_map selection all ≡ take count page ++ flat_map selection later
  none_filled seen = yields ∙ ap (λ ys. take count page ++ (ys ++ flat_map selection later)) (sym seen)
