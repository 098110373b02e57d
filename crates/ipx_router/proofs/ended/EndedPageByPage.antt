-- What ended, page by page: each step of adding it to the page at hand.
use Rattle.std.proofs.lemmas.Grind.{common_steps}
use Rattle.std.proofs.Common.{◌≡◌, sym, ap, subst, ◌∙◌, ℕ, true, false, List, [], ◌∷◌, ◌++◌, Option, ◌≤◌, length, Bool, Ordering, refl, suc, ◌+◌, drop, arith}
use Rattle.std.specs.List.{flat_map, prefix_len}
use Rattle.ipx_table.specs.Stands.{Ascends}
use Rattle.ipx_router.specs.inside.Ended.{AreInOrder, ended_as, ends_before}
use Rattle.ipx_router.specs.Outbox.{Contents, Fits, Appends}
use Rattle.ipx_router.specs.inside.Owed.{Pays, owed}
use Rattle.ipx_router.specs.Relays.{Sent}
use Rattle.ipx_router.specs.Sorted.{put_all}
use Rattle.ipx_router.specs.inside.Sources.{first_then}
use Rattle.ipx_router.specs.declared.advertising.envelope.Envelope.{Envelope}
use Rattle.ipx_router.proofs.sending.PageByPage.{pays_rest}
use Rattle.ipx_router.proofs.ended.EndedRises.{ended_next, waiting_then}
use Rattle.ipx_router.proofs.sending.OneAfterAnother.{pays_then, still_fits, page_fits}

-- ---- equal lists are owed alike

module _ {X : Type 0} (n : ℕ) (packet : List X → Sent) (page : List X) {xs ys : List X} (same : xs ≡ ys) where
  pub owes_same : {a b : Contents} {ps : List Sent} → Pays a b ps (owed n packet page xs) → Pays a b ps (owed n packet page ys)
  owes_same {a} {b} {ps} pays = subst (λ (zs : List X). Pays a b ps (owed n packet page zs)) same pays

  pub fits_same : {o : Contents} → Fits o (owed n packet page xs) → Fits o (owed n packet page ys)
  fits_same {o} fits = subst (λ (zs : List X). Fits o (owed n packet page zs)) same fits

-- ---- items from a source, and among them what ended

module _ {X : Type 0} (n : ℕ) (packet : List X → Sent) (comes_before : X → X → Bool) {o a : Contents} {all : List Sent} (page left ended : List X)
    (pays : Pays o a all (owed n packet page (put_all comes_before left ended))) where
  -- the source yields an item
  module _ (x : X) (later : List X) (yielded : left ≡ x ∷ later) where
    item_owed : Pays o a all (owed n packet page (put_all comes_before (x ∷ later) ended))
    item_owed = owes_same n packet page (ap (λ (xs : List X). put_all comes_before xs ended) yielded) pays

    pub item_fits : Fits o all → Fits a (owed n packet page (put_all comes_before (x ∷ later) ended))
    item_fits fits = still_fits fits item_owed

    -- what ended before it was added
    module _ {b : Contents} (page' rest : List X)
        (before : Pays a b (owed n packet page (put_all comes_before (x ∷ later) ended)) (owed n packet page' (x ∷ put_all comes_before later rest))) where
      pub item_page_fits : 1 ≤ n → Fits o all → n ≤ length page' → Fits b (packet page' ∷ [])
      item_page_fits some fits full = page_fits n packet page' x (put_all comes_before later rest) some full (still_fits fits (pays_then item_owed before))

      pub item_pays : {c : Contents} (page'' : List X)
          → Pays b c (owed n packet page' (x ∷ put_all comes_before later rest)) (owed n packet page'' (put_all comes_before later rest))
          → Pays o c all (owed n packet page'' (put_all comes_before later rest))
      item_pays page'' item = pays_then item_owed (pays_then before item)

  -- it yields none: the rest of what ended is owed
  module _ (none : left ≡ []) where
    rest_owed : Pays o a all (owed n packet page (put_all comes_before [] ended))
    rest_owed = owes_same n packet page (ap (λ (xs : List X). put_all comes_before xs ended) none) pays

    pub rest_fits : Fits o all → Fits a (owed n packet page (put_all comes_before [] ended))
    rest_fits fits = still_fits fits rest_owed

    module _ {b : Contents} (page' : List X) (rest : Pays a b (owed n packet page (put_all comes_before [] ended)) (owed n packet page' [])) where
      pub last_fits : Fits o all → Fits b (owed n packet page' [])
      last_fits fits = still_fits fits (pays_then rest_owed rest)

      pub last_sent : {c : Contents} → Appends b c (owed n packet page' []) → Appends o c all
      last_sent last = pays_rest (pays_then rest_owed rest) last

-- items of a port in an envelope of that port are owed from their first page on
module _ {X : Type 0} (n : ℕ) (packet : Envelope → List X → Sent) (items : ℕ → List X) (to : Envelope) {envelope : Envelope} {page xs : List X}
    (is : envelope ≡ to) (empty : page ≡ []) (same : xs ≡ items to.port) where
  begins : owed n (packet to) [] xs ≡ owed n (packet envelope) page (items envelope.port)
  begins = grind arith

  pub begun_fits : {o : Contents} → Fits o (owed n (packet to) [] xs) → Fits o (owed n (packet envelope) page (items envelope.port))
  begun_fits {o} fits = subst (Fits o) begins fits

  pub begun_pays : {a b : Contents} {ps : List Sent} → Pays a b (owed n (packet envelope) page (items envelope.port)) ps → Pays a b (owed n (packet to) [] xs) ps
  begun_pays {a} {b} {ps} pays = subst (λ (qs : List Sent). Pays a b qs ps) (sym begins) pays

-- ---- what is left behind those that pass a test

module _ {X : Type 0} (p : X → Bool) (x : X) (others left : List X) (first : left ≡ x ∷ others) where
  pub left_stays : p x ≡ false → drop (prefix_len p left) left ≡ left
  left_stays fails = subst (λ (xs : List X). drop (prefix_len p xs) xs ≡ xs) (sym first) (rw fails refl)

  pub left_shrinks : p x ≡ true → drop (prefix_len p left) left ≡ drop (prefix_len p others) others
  left_shrinks passes = ap (λ (xs : List X). drop (prefix_len p xs) xs) first ∙ one_less
    where
      one_less : drop (prefix_len p (x ∷ others)) (x ∷ others) ≡ drop (prefix_len p others) others
      one_less = let more : 1 + prefix_len p others ≡ suc (prefix_len p others) = omega arith in rw (passes, more) refl

-- ---- the first of what is left

module _ {O X : Type 0} (by_key : O → O → Ordering) (comes_before : X → X → Bool) (read : O → X) (port : O → ℕ) (number : ℕ) (waiting : Option X) where
  -- what ended, among items of which the first waits
  abbrev pub among : List X → List O → List X
  among later left = put_all comes_before (first_then waiting later) (flat_map (ended_as port read number) left)

  -- what waits, and behind it the others and what ended
  abbrev pub behind : List X → List O → List X
  behind later left = first_then waiting (put_all comes_before later (flat_map (ended_as port read number) left))

  module _ (order : AreInOrder by_key comes_before read) (later : List X) (offer : O) (others left : List O) (first : left ≡ offer ∷ others)
      (up : Ascends by_key left) where
    pub others_ascend : Ascends by_key others
    others_ascend = (subst (Ascends by_key) first up).1

    pub offer_next : ends_before comes_before read waiting offer ≡ true → among later left ≡ ended_as port read number offer ++ among later others
    offer_next before = ap (among later) first ∙ ended_next by_key comes_before read order port number waiting later offer others (subst (Ascends by_key) first up) before

    pub item_next : ends_before comes_before read waiting offer ≡ false → among later left ≡ behind later left
    item_next after = grind (arith, waiting_then)

  -- and where none is left, what waits is next
  pub none_left : (later : List X) (left : List O) → length left ≡ 0 → among later left ≡ behind later left
  none_left later left empty = grind (arith, common_steps)
