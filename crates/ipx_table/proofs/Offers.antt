-- What one offer more does to records: to their order, to look-ups, and to what a table keeps.
use Rattle.std.proofs.Common.{◌≡◌, refl, sym, ap, ◌∙◌, subst, ℕ, ◌<◌, ◌≤◌, suc, ◌==◌, Bool, true, false, not, ◌&&◌, ◌||◌, cond, nat_lt, if◌then◌else◌, List, [], ◌∷◌, ◌++◌, filter, find, length, set, take, drop, remove, slice_get, Option, None, Some, inl, inr, arith, true≢false, append-nil, is_eq, is_lt}
use Rattle.std.specs.List.{AllByRecursion, list_any}
use Rattle.std.specs.Cmp.{IsTotalOrder}
use Rattle.std.proofs.lemmas.Cmp.{tied_back, alike_right}
use Rattle.std.proofs.lemmas.Bool.{cases_Bool}
use Rattle.std.proofs.lemmas.List.Elements.{filter-append}
use Rattle.ipx_table.specs.Reading.{Rules, same_key}
use Rattle.ipx_table.specs.Facts.{Offered}
use Rattle.ipx_table.specs.Alive.{cuts, lifetime}
use Rattle.ipx_table.specs.Accepted.{is_accepted, has_share, may_replace}
use Rattle.ipx_table.specs.inside.AfterOffer.{fresh, uncut, after_offer}
use Rattle.ipx_table.specs.Stands.{put, in_order, IsDistinct, IsKept}
use Rattle.ipx_table.specs.Taken.{taken_over, taken_beside, taken_down, taken_up}
use Rattle.ipx_table.specs.declared.taken.Taken.{Taken}
use Rattle.ipx_table.specs.declared.held.Held.{Held}
use Rattle.ipx_table.proofs.Order as order
use Rattle.ipx_table.proofs.Singles.{NonePass, all_then, all-append, all-filter, filter-passes, none_pass, none-any, none-filter, all-kept, length-filter-filter, Around, around, any-around, find-around, cut_at, set-cut}

module _ {O : Type 0} (rules : Rules O) (total : IsTotalOrder rules.by_key) where
  -- the test that a record is of an offer's key
  abbrev pub of_key : O → Held O → Bool
  of_key offer h = same_key rules.by_key h.offer offer

  pub ties_keys : (offer : O) → order.TiesKeys rules.by_key total (of_key offer)
  ties_keys offer x y px py =
      let xo = order.is_equal (rules.by_key x.offer offer) px in
      let yo = order.is_equal (rules.by_key y.offer offer) py in
      ap is_lt (total.congr x.offer offer y.offer xo ∙ tied_back total y.offer offer yo)

  -- ---- order

  pub count-in_order : (p : Held O → Bool) (held : List (Held O)) → length (filter p (in_order rules.by_key held)) ≡ length (filter p held)
  count-in_order p held = ap length (order.filter-in_order rules.by_key total p held) ∙ order.length-in_order rules.by_key total (filter p held)

  pub share-in_order : (offer : O) (held : List (Held O)) → has_share rules offer (in_order rules.by_key held) ≡ has_share rules offer held
  share-in_order offer held = ap (λ n. nat_lt n (rules.share (rules.port offer))) (count-in_order (λ h. rules.port h.offer == rules.port offer) held)

  pub accepted-in_order : (offer : O) (held : List (Held O)) → is_accepted rules (in_order rules.by_key held) (Offered offer) ≡ is_accepted rules held (Offered offer)
  accepted-in_order offer held =
      let any = λ (p : Held O → Bool). order.list_any-in_order rules.by_key total p held in
      let size = order.length-in_order rules.by_key total held in
      let shared = λ (share : Bool) (h : Held O). rules.port h.offer == rules.port offer || share in
      ap (λ (share : Bool). not (rules.is_down offer) && (list_any (λ h. of_key offer h && rules.same_source h.offer offer) (in_order rules.by_key held)
      || list_any (λ h. of_key offer h && not (rules.same_source h.offer offer) && rules.is_worse h.offer offer && shared share h) (in_order rules.by_key held)
      || (not (list_any (of_key offer) (in_order rules.by_key held)) && nat_lt (length (in_order rules.by_key held)) rules.capacity && share))) (share-in_order offer held)
      ∙ rw (
        any (λ h. of_key offer h && rules.same_source h.offer offer),
        any (λ h. of_key offer h && not (rules.same_source h.offer offer) && rules.is_worse h.offer offer && may_replace rules offer held h),
        any (of_key offer),
        size,
      ) refl

  pub apart_from : (offer : O) (held : List (Held O)) → NonePass (of_key offer) (uncut rules offer true held)
  apart_from offer held = filter-passes (λ x. of_key offer x ≡ false) (λ h. not (cuts rules offer true h.offer)) (λ x e. means (of_key offer x) (rules.same_source x.offer offer) e) held
    where
      means : (k s : Bool) → not (k && (s || true)) ≡ true → k ≡ false
      means true true e = absurd (true≢false (sym e))
      means true false e = absurd (true≢false (sym e))
      means false s e = refl

  -- the records after the offer, made from those before it in order
  placed : List (Held O) → O → List (Held O)
  placed held offer =
      if is_accepted rules held (Offered offer) then put rules.by_key (fresh offer) (uncut rules offer true held) else uncut rules offer false held

  in_order-after : (held : List (Held O)) (offer : O) → in_order rules.by_key (after_offer rules held offer) ≡ placed (in_order rules.by_key held) offer
  unfolding placed
  in_order-after held offer =
      let kept = λ (a : Bool). order.filter-in_order rules.by_key total (λ h. not (cuts rules offer a h.offer)) held in
      let e = accepted-in_order offer held in
      elim (cases_Bool (is_accepted rules held (Offered offer))) [
        | inl yea ↦
            rw (yea, e ∙ yea)
            (order.in_order-mid rules.by_key total (uncut rules offer true held) (fresh offer) [] (apart_from offer held)
            ∙ ap (λ xs. put rules.by_key (fresh offer) (in_order rules.by_key xs)) (append-nil (uncut rules offer true held))
            ∙ ap (put rules.by_key (fresh offer)) (sym (kept true)))
        | inr nay ↦
            rw (nay, e ∙ nay) (ap (in_order rules.by_key) (append-nil (uncut rules offer false held)) ∙ sym (kept false))
      ]

  -- what an offer does to records doesn't depend on how they stand
  pub after_in_order : (xs ys : List (Held O)) (offer : O) → in_order rules.by_key xs ≡ in_order rules.by_key ys
      → in_order rules.by_key (after_offer rules xs offer) ≡ in_order rules.by_key (after_offer rules ys offer)
  after_in_order xs ys offer e = in_order-after xs offer ∙ ap (λ held. placed held offer) e ∙ sym (in_order-after ys offer)

  taken_up-in_order : (same_offer : O → O → Bool) (held : List (Held O)) (offer : O) (known : Option (Held O))
      → taken_up rules same_offer (in_order rules.by_key held) offer known ≡ taken_up rules same_offer held offer known
  taken_up-in_order same_offer held offer None =
      let size = order.length-in_order rules.by_key total held in
      let count = count-in_order (λ h. rules.port h.offer == rules.port offer) held in
      rw (size, count) refl
  taken_up-in_order same_offer held offer (Some h) = grind (arith, count-in_order)

  pub taken-in_order : (same_offer : O → O → Bool) (held : List (Held O)) (offer : O)
      → taken_over rules same_offer (in_order rules.by_key held) offer ≡ taken_over rules same_offer held offer
  taken-in_order same_offer held offer =
      ap (taken_beside rules same_offer (in_order rules.by_key held) offer) (order.find-in_order rules.by_key total (of_key offer) (ties_keys offer) held)
      ∙ ap (λ (t : Taken). if rules.is_down offer then taken_down rules same_offer offer (find (of_key offer) held) else t)
      (taken_up-in_order same_offer held offer (find (of_key offer) held))

  -- ---- what a table keeps

  abbrev pub AreYoung : List (Held O) → Type 0
  AreYoung held = AllByRecursion (λ h. h.age < lifetime) held

  pub kept-in_order : (xs ys : List (Held O)) → in_order rules.by_key xs ≡ in_order rules.by_key ys → IsKept rules.by_key ys → IsKept rules.by_key xs
  kept-in_order xs ys e kept = record {
    distinct = λ offer. subst (λ (n : ℕ). n ≤ 1)
        (sym (count-in_order (of_key offer) ys) ∙ ap (λ held. length (filter (of_key offer) held)) (sym e) ∙ count-in_order (of_key offer) xs) (kept.distinct offer);
    young = order.all-from_order rules.by_key total (λ h. h.age < lifetime) xs
        (subst (λ held. AreYoung held) (sym e) (order.all-in_order rules.by_key total (λ h. h.age < lifetime) ys kept.young));
  }

  pub kept-filter : (p : Held O → Bool) (held : List (Held O)) → IsKept rules.by_key held → IsKept rules.by_key (filter p held)
  kept-filter p held kept = grind (arith, length-filter-filter, all-filter)

  pub kept-after : (held : List (Held O)) (offer : O) → IsKept rules.by_key held → IsKept rules.by_key (after_offer rules held offer)
  kept-after held offer kept =
      elim (cases_Bool (is_accepted rules held (Offered offer))) [
        | inl yea ↦ rw yea (record {
          distinct = λ q. distinct_fresh q;
          young = all-append (λ h. h.age < lifetime) (uncut rules offer true held) (fresh offer ∷ [])
              (all-filter (λ h. h.age < lifetime) (λ h. not (cuts rules offer true h.offer)) held kept.young) (omega arith, tt);
        })
        | inr nay ↦ rw (nay, append-nil (uncut rules offer false held)) (record {
          distinct = λ q. fewer q (λ h. not (cuts rules offer false h.offer));
          young = all-filter (λ h. h.age < lifetime) (λ h. not (cuts rules offer false h.offer)) held kept.young;
        })
      ]
    where
      fewer : (q : O) (p : Held O → Bool) → length (filter (of_key q) (filter p held)) ≤ 1
      fewer q p = omega (arith, length-filter-filter (of_key q) p held, kept.distinct q)

      distinct_fresh : (q : O) → length (filter (of_key q) (uncut rules offer true held ++ fresh offer ∷ [])) ≤ 1
      distinct_fresh q =
          let parts = filter-append (of_key q) (uncut rules offer true held) (fresh offer ∷ []) in
          elim (cases_Bool (same_key rules.by_key offer q)) [
            | inl same ↦
                let none : filter (of_key q) (uncut rules offer true held) ≡ [] =
                none-filter (of_key q) (uncut rules offer true held) (all_then (λ x. of_key offer x ≡ false) (λ x. of_key q x ≡ false)
                (λ x apart. sym (ap is_eq (alike_right total offer q x.offer (order.is_equal (rules.by_key offer q) same))) ∙ apart) (uncut rules offer true held) (apart_from offer held)) in
                simp (parts, none, same) (omega arith)
            | inr other ↦
                simp (parts, other, append-nil (filter (of_key q) (uncut rules offer true held))) (fewer q (λ h. not (cuts rules offer true h.offer)))
          ]

  -- ---- an offer of a key that isn't held

  pub not_held-uncut : (held : List (Held O)) (offer : O) (a : Bool) → list_any (of_key offer) held ≡ false → uncut rules offer a held ≡ held
  not_held-uncut held offer a none =
      all-kept (λ h. not (cuts rules offer a h.offer)) held
      (all_then (λ h. of_key offer h ≡ false) (λ h. not (cuts rules offer a h.offer) ≡ true) (λ h e. rw e refl) held (none_pass (of_key offer) held none))

  pub not_held-accepted : (held : List (Held O)) (offer : O) → list_any (of_key offer) held ≡ false
      → is_accepted rules held (Offered offer) ≡ (not (rules.is_down offer) && (nat_lt (length held) rules.capacity && has_share rules offer held))
  not_held-accepted held offer none = grind (arith, none_pass, none-any, all_then)

  pub not_held-left : (held : List (Held O)) (offer : O) → list_any (of_key offer) held ≡ false
      → (not (rules.is_down offer) && (nat_lt (length held) rules.capacity && has_share rules offer held)) ≡ false → held ≡ after_offer rules held offer
  not_held-left held offer none nay =
      let refused = not_held-accepted held offer none ∙ nay in
      rw (refused, not_held-uncut held offer false none) (sym (append-nil held))

  pub not_held-added : (held : List (Held O)) (offer : O) → list_any (of_key offer) held ≡ false
      → (not (rules.is_down offer) && (nat_lt (length held) rules.capacity && has_share rules offer held)) ≡ true → held ++ fresh offer ∷ [] ≡ after_offer rules held offer
  not_held-added held offer none yea = grind (arith, not_held-accepted, not_held-uncut)

  -- ---- an offer of the key of a record

  -- the record stands at that place, and it alone is of the offer's key
  pub record HeldAt (held : List (Held O)) (place : ℕ) (it : Held O) (offer : O) : Type 0 where
    pub layout : held ≡ take place held ++ it ∷ drop (suc place) held
    pub alone : Around (of_key offer) (take place held) it (drop (suc place) held)

  pub held_at : (held : List (Held O)) (place : ℕ) (it : Held O) (offer : O) → slice_get held place ≡ Some it → of_key offer it ≡ true → IsDistinct rules.by_key held
      → HeldAt held place it offer
  held_at held place it offer at same distinct =
      let layout = cut_at held place it at in
      record {
        layout = layout;
        alone = around (of_key offer) (take place held) it (drop (suc place) held) same
            (subst (λ xs. length (filter (of_key offer) xs) ≤ 1) layout (distinct offer));
      }

  pub held-find : (held : List (Held O)) (place : ℕ) (it : Held O) (offer : O) → HeldAt held place it offer → find (of_key offer) held ≡ Some it
  held-find held place it offer h = grind (arith, find-around)

  held-any : (q : Held O → Bool) (held : List (Held O)) (place : ℕ) (it : Held O) (offer : O) → ((x : Held O) → of_key offer x ≡ false → q x ≡ false)
      → HeldAt held place it offer → list_any q held ≡ q it
  held-any q held place it offer only h = grind (arith, any-around)

  pub held-accepted : (held : List (Held O)) (place : ℕ) (it : Held O) (offer : O) → HeldAt held place it offer
      → is_accepted rules held (Offered offer)
      ≡ (not (rules.is_down offer) && (rules.same_source it.offer offer || not (rules.same_source it.offer offer) && rules.is_worse it.offer offer && may_replace rules offer held it))
  held-accepted held place it offer h =
      let refreshing = held-any (λ x. of_key offer x && rules.same_source x.offer offer) held place it offer (λ x e. rw e refl) h in
      let replacing = held-any (λ x. of_key offer x && not (rules.same_source x.offer offer) && rules.is_worse x.offer offer && may_replace rules offer held x) held place it offer (λ x e. rw e refl) h in
      let known = held-any (of_key offer) held place it offer (λ x e. e) h in
      rw (refreshing, replacing, known, h.alone.passes)
      (or_false (not (rules.is_down offer)) (rules.same_source it.offer offer || not (rules.same_source it.offer offer) && rules.is_worse it.offer offer && may_replace rules offer held it))
    where
      or_false : (d b : Bool) → (d && (b || false)) ≡ (d && b)
      or_false true true = refl
      or_false true false = refl
      or_false false b = refl

  uncut-around : (a : Bool) (xs : List (Held O)) (offer : O) → NonePass (of_key offer) xs → uncut rules offer a xs ≡ xs
  uncut-around a xs offer none = grind (arith, all-kept, all_then)

  pub held-uncut : (a : Bool) (held : List (Held O)) (place : ℕ) (it : Held O) (offer : O) → HeldAt held place it offer
      → uncut rules offer a held ≡ take place held ++ ((if rules.same_source it.offer offer || a then [] else it ∷ []) ++ drop (suc place) held)
  held-uncut a held place it offer h =
      let p = λ (x : Held O). not (cuts rules offer a x.offer) in
      let front = uncut-around a (take place held) offer h.alone.none_before in
      let back = uncut-around a (drop (suc place) held) offer h.alone.none_behind in
      ap (filter p) h.layout ∙ filter-append p (take place held) (it ∷ drop (suc place) held)
      ∙ rw (front, h.alone.passes, back) (one (rules.same_source it.offer offer || a))
    where
      one : (c : Bool) → (take place held ++ cond (not c) (it ∷ drop (suc place) held) (drop (suc place) held)) ≡ take place held ++ ((if c then [] else it ∷ []) ++ drop (suc place) held)
      one true = refl
      one false = refl

  -- what becomes of the record: nothing, it goes, or the offer takes its place

  pub unchanged : (held : List (Held O)) (place : ℕ) (it : Held O) (offer : O) → HeldAt held place it offer
      → is_accepted rules held (Offered offer) ≡ false → rules.same_source it.offer offer ≡ false → after_offer rules held offer ≡ held
  unchanged held place it offer h nay other =
      let rest = held-uncut false held place it offer h in
      rw (nay, rest, other) (append-nil (take place held ++ it ∷ drop (suc place) held) ∙ sym h.layout)

  pub removed : (held : List (Held O)) (place : ℕ) (it : Held O) (offer : O) → HeldAt held place it offer
      → is_accepted rules held (Offered offer) ≡ false → rules.same_source it.offer offer ≡ true → after_offer rules held offer ≡ remove held place
  removed held place it offer h nay own =
      let rest = held-uncut false held place it offer h in
      rw (nay, rest, own) (append-nil (take place held ++ drop (suc place) held))

  pub renewed : (held : List (Held O)) (place : ℕ) (it : Held O) (offer : O) → HeldAt held place it offer → slice_get held place ≡ Some it
      → is_accepted rules held (Offered offer) ≡ true
      → in_order rules.by_key (set held place (fresh offer)) ≡ in_order rules.by_key (after_offer rules held offer)
  renewed held place it offer h at yea =
      let rest = held-uncut true held place it offer h in
      let written = set-cut held place it (fresh offer) at in
      let front = order.in_order-mid rules.by_key total (take place held) (fresh offer) (drop (suc place) held) h.alone.none_before in
      let both = all-append (λ x. of_key offer x ≡ false) (take place held) (drop (suc place) held) h.alone.none_before h.alone.none_behind in
      let last = order.in_order-mid rules.by_key total (take place held ++ drop (suc place) held) (fresh offer) [] both in
      ap (in_order rules.by_key) written ∙ front
      ∙ ap (λ xs. put rules.by_key (fresh offer) (in_order rules.by_key xs)) (sym (append-nil (take place held ++ drop (suc place) held)))
      ∙ sym last
      ∙ rw (yea, rest) (ap (in_order rules.by_key) (cut_out (rules.same_source it.offer offer)))
    where
      cut_out : (s : Bool) → ((take place held ++ drop (suc place) held) ++ fresh offer ∷ [])
          ≡ ((take place held ++ ((if s || true then [] else it ∷ []) ++ drop (suc place) held)) ++ fresh offer ∷ [])
      cut_out true = refl
      cut_out false = refl
