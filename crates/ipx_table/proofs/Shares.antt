-- The alive offers of a port never pass its share.
use Rattle.std.proofs.Common.{◌≡◌, refl, sym, ◌∙◌, subst, ℕ, ◌+◌, ◌≤◌, ◌==◌, suc, Bool, true, false, not, ◌&&◌, ◌||◌, nat_lt, List, [], ◌∷◌, ◌++◌, filter, length, map, inl, inr, arith, true≢false, length-append}
use Rattle.std.specs.List.{list_any}
use Rattle.std.proofs.lemmas.Bool.{cases_Bool, and_parts, or_cases, eqb-true, eq-eqb, ltb-true}
use Rattle.std.proofs.lemmas.List.Elements.{filter-append}
use Rattle.ipx_table.specs.Reading.{Reading, Rules, same_key, count_by, one_source, port_of}
use Rattle.ipx_table.specs.Facts.{Fact, Offered}
use Rattle.ipx_table.specs.Alive.{alive, cuts}
use Rattle.ipx_table.specs.Accepted.{is_accepted, is_new_with_room, refreshes, replaces, has_share, may_replace, marked}
use Rattle.ipx_table.specs.inside.AfterOffer.{fresh, uncut, after_offer}
use Rattle.ipx_table.specs.Stands.{second_later, is_last, older}
use Rattle.ipx_table.specs.declared.held.Held.{Held}
use Rattle.ipx_table.proofs.Living.{always_after, cut_out}
use Rattle.ipx_table.proofs.Singles.{length-filter-filter}

-- a filter that leaves out one that is counted, at least
counted-left : {X : Type 0} (count keep left : X → Bool) → ((x : X) → left x ≡ true → (count x ≡ true) × (keep x ≡ false)) → (xs : List X)
    → list_any left xs ≡ true → suc (length (filter count (filter keep xs))) ≤ length (filter count xs)
counted-left count keep left leaves [] any = absurd (true≢false (sym any))
counted-left count keep left leaves (x ∷ xs) any = elim (cases_Bool (left x)) [
  | inl e ↦
      let out = leaves x e in
      let fewer = length-filter-filter count keep xs in
      rw (out.0, out.1) (omega (arith, fewer))
  | inr e ↦
      let rest : list_any left xs ≡ true = rw e at any in
      let ih = counted-left count keep left leaves xs rest in
      elim (cases_Bool (keep x)) [
        | inl kept ↦ elim (cases_Bool (count x)) [
          | inl counted ↦ simp (kept, counted) (omega (arith, ih))
          | inr not_counted ↦ simp (kept, not_counted) ih
        ]
        | inr out ↦ elim (cases_Bool (count x)) [
          | inl counted ↦ simp (out, counted) (omega (arith, ih))
          | inr not_counted ↦ simp (out, not_counted) ih
        ]
      ]
]

module _ {O : Type 0} (port_by : O → ℕ) where
  count_by-append : (port : ℕ) (xs ys : List (Held O)) → count_by port_by port (xs ++ ys) ≡ count_by port_by port xs + count_by port_by port ys
  count_by-append port xs ys = grind (arith, filter-append, length-append)

  count_by-older : (port : ℕ) (held : List (Held O)) → count_by port_by port (map older held) ≡ count_by port_by port held
  count_by-older port [] = refl
  count_by-older port (h ∷ held) = grind (arith, count_by-older port held)

  count_by-filter : (port : ℕ) (p : Held O → Bool) (held : List (Held O)) → count_by port_by port (filter p held) ≤ count_by port_by port held
  count_by-filter port p held = length-filter-filter (λ h. port_by h.offer == port) p held

module _ {O : Type 0} (rules : Rules O) (one_port : (a b : O) → rules.same_source a b ≡ true → rules.port a ≡ rules.port b) where
  -- of an offer's port, after the offer was accepted
  module _ (held : List (Held O)) (offer : O) where
    abbrev by_its_port : Held O → Bool
    by_its_port h = rules.port h.offer == rules.port offer

    abbrev uncut_by_it : Held O → Bool
    uncut_by_it h = not (cuts rules offer true h.offer)

    cut_of_port : (h : Held O) → same_key rules.by_key h.offer offer ≡ true → by_its_port h ≡ true → (by_its_port h ≡ true) × (uncut_by_it h ≡ false)
    cut_of_port h key port = (port, cut_out (same_key rules.by_key h.offer offer) (rules.same_source h.offer offer) key)

    -- a refresh, or a replacement within the port, cuts one of its records
    refresh_leaves : refreshes rules offer held ≡ true → count_by rules.port (rules.port offer) (uncut rules offer true held) + 1 ≤ count_by rules.port (rules.port offer) held
    refresh_leaves own =
        let fewer = counted-left by_its_port uncut_by_it (λ h. same_key rules.by_key h.offer offer && rules.same_source h.offer offer) leaves held own in
        omega (arith, fewer)
      where
        leaves : (h : Held O) → (same_key rules.by_key h.offer offer && rules.same_source h.offer offer) ≡ true → (by_its_port h ≡ true) × (uncut_by_it h ≡ false)
        leaves h e =
            let parts = and_parts (same_key rules.by_key h.offer offer) (rules.same_source h.offer offer) e in
            cut_of_port h parts.0 (eq-eqb (rules.port h.offer) (rules.port offer) (one_port h.offer offer parts.1))

    replacement_leaves : has_share rules offer held ≡ false → replaces rules offer held ≡ true
        → count_by rules.port (rules.port offer) (uncut rules offer true held) + 1 ≤ count_by rules.port (rules.port offer) held
    replacement_leaves at_share better =
        let fewer = counted-left by_its_port uncut_by_it
        (λ h. same_key rules.by_key h.offer offer && not (rules.same_source h.offer offer) && rules.is_worse h.offer offer && may_replace rules offer held h) leaves held better in
        omega (arith, fewer)
      where
        or_false : (b : Bool) → (b || false) ≡ true → b ≡ true
        or_false true e = refl
        or_false false e = e

        leaves : (h : Held O) → (same_key rules.by_key h.offer offer && not (rules.same_source h.offer offer) && rules.is_worse h.offer offer && may_replace rules offer held h) ≡ true
            → (by_its_port h ≡ true) × (uncut_by_it h ≡ false)
        leaves h e =
            let worse = and_parts (same_key rules.by_key h.offer offer && not (rules.same_source h.offer offer) && rules.is_worse h.offer offer) (may_replace rules offer held h) e in
            let other = and_parts (same_key rules.by_key h.offer offer && not (rules.same_source h.offer offer)) (rules.is_worse h.offer offer) worse.0 in
            let key = (and_parts (same_key rules.by_key h.offer offer) (not (rules.same_source h.offer offer)) other.0).0 in
            cut_of_port h key (or_false (by_its_port h) (rw at_share at worse.1))

    own-after : count_by rules.port (rules.port offer) held ≤ rules.share (rules.port offer) → is_accepted rules held (Offered offer) ≡ true
        → count_by rules.port (rules.port offer) (uncut rules offer true held) + 1 ≤ rules.share (rules.port offer)
    own-after within yea = elim (cases_Bool (has_share rules offer held)) [
      | inl room ↦
          let free = ltb-true (count_by rules.port (rules.port offer) held) (rules.share (rules.port offer)) room in
          let fewer = count_by-filter rules.port (rules.port offer) uncut_by_it held in
          omega (arith, free, fewer)
      | inr at_share ↦ elim (or_cases (refreshes rules offer held || replaces rules offer held) (is_new_with_room rules offer held) accepted) [
        | inl known ↦ elim (or_cases (refreshes rules offer held) (replaces rules offer held) known) [
          | inl own ↦ let fewer = refresh_leaves own in omega (arith, within, fewer)
          | inr better ↦ let fewer = replacement_leaves at_share better in omega (arith, within, fewer)
        ]
        | inr room ↦
            let share = (and_parts (not (list_any (λ h. same_key rules.by_key h.offer offer) held) && nat_lt (length held) rules.capacity) (has_share rules offer held) room).1 in
            absurd (true≢false (sym share ∙ at_share))
      ]
    ]
      where
        accepted : (refreshes rules offer held || replaces rules offer held || is_new_with_room rules offer held) ≡ true
        accepted = (and_parts (not (rules.is_down offer)) (refreshes rules offer held || replaces rules offer held || is_new_with_room rules offer held) yea).1

  within-after : (port : ℕ) (held : List (Held O)) (offer : O) → count_by rules.port port held ≤ rules.share port → count_by rules.port port (after_offer rules held offer) ≤ rules.share port
  within-after port held offer within =
      elim (cases_Bool (is_accepted rules held (Offered offer))) [
        | inl yea ↦
            let more = count_by-append rules.port port (uncut rules offer true held) (fresh offer ∷ []) in
            let fewer = count_by-filter rules.port port (λ h. not (cuts rules offer true h.offer)) held in
            rw yea (elim (cases_Bool (rules.port offer == port)) [
              | inl its ↦ by_port port (eqb-true (rules.port offer) port its) yea within
              | inr other ↦
                  let none : count_by rules.port port (fresh offer ∷ []) ≡ 0 = rw other refl in
                  omega (arith, more, fewer, none, within)
            ])
        | inr nay ↦
            let more = count_by-append rules.port port (uncut rules offer false held) [] in
            let fewer = count_by-filter rules.port port (λ h. not (cuts rules offer false h.offer)) held in
            rw nay (omega (arith, more, fewer, within))
      ]
    where
      by_port : (port : ℕ) → rules.port offer ≡ port → is_accepted rules held (Offered offer) ≡ true → count_by rules.port port held ≤ rules.share port
          → count_by rules.port port (uncut rules offer true held ++ fresh offer ∷ []) ≤ rules.share port
      by_port port its yea within =
          let here : count_by rules.port (rules.port offer) held ≤ rules.share (rules.port offer) = subst (λ p. count_by rules.port p held ≤ rules.share p) (sym its) within in
          let more = count_by-append rules.port (rules.port offer) (uncut rules offer true held) (fresh offer ∷ []) in
          let one : count_by rules.port (rules.port offer) (fresh offer ∷ []) ≡ 1 = rw (eq-eqb (rules.port offer) (rules.port offer) refl) refl in
          let after = own-after held offer here yea in
          let whole : count_by rules.port (rules.port offer) (uncut rules offer true held ++ fresh offer ∷ []) ≤ rules.share (rules.port offer) = omega (arith, more, one, after) in
          subst (λ p. count_by rules.port p (uncut rules offer true held ++ fresh offer ∷ []) ≤ rules.share p) its whole

  pub within_share : (facts : List (Fact O)) (port : ℕ) → count_by rules.port port (alive rules (marked rules facts)) ≤ rules.share port
  within_share facts port =
      always_after rules (λ held. count_by rules.port port held ≤ rules.share port) (omega arith) (within-after port) by_second
      (λ held other within. let fewer = count_by-filter rules.port port (λ h. not (rules.port h.offer == other)) held in omega (arith, fewer, within)) [] (omega arith) facts
    where
      by_second : (held : List (Held O)) → count_by rules.port port held ≤ rules.share port → count_by rules.port port (second_later held) ≤ rules.share port
      by_second held within =
          let same = count_by-older rules.port port (filter (λ h. not (is_last h)) held) in
          let fewer = count_by-filter rules.port port (λ h. not (is_last h)) held in
          omega (arith, same, fewer, within)

-- offers of one source came by one port
pub one_source-port : {O K : Type 0} (reading : Reading O K) (a b : O) → one_source (reading.source a) (reading.source b) ≡ true → port_of reading a ≡ port_of reading b
one_source-port reading a b same = grind arith
