-- The pairs that are found in order are the pairing.
use Rattle.std.proofs.Common.{◌≡◌, ◌≢◌, ◌⊎◌, ◌∙◌, refl, sym, ap, subst, arith, ℕ, zero, suc, ◌<◌, ◌≤◌, Bool, true, ◌==◌, not, if◌then◌else◌, inl, inr, List, length, get_or, set, replicate, length-set, take_at, get_or-set_same, get_or-set_other, Option, Some, None, is_some, eqb-true, eq-eqb}
use Rattle.std.specs.List.{refill}
use Rattle.std.proofs.lemmas.Bool.{cases_Bool, cases_eq, cases_lt, false≢true, and_parts, and_from}
use Rattle.std.proofs.lemmas.List.{length-replicate, get_or-replicate, get_or_past}
use Rattle.std.proofs.lemmas.List.Quantifiers.{position-Some}
use Rattle.std.proofs.lemmas.Option.{none-some, slice_get_past}
use Rattle.ipx_plan.specs.declared.link.Link.{Link}
use Rattle.ipx_plan.specs.Likeness.{same, at_port, apart, distance_at}
use Rattle.ipx_plan.specs.Pairing.{Continues, ComesFirst, IsPairing, is_number, becomes}
use Rattle.ipx_plan.specs.inside.Pairs.{first_below, is_free, with_link, with_links, paired}
use Rattle.ipx_plan.proofs.Places.{first_some, first_none, position_there}

-- ---- who continues whom

pub number_is : (j : ℕ) (o : Option ℕ) → is_number j o ≡ true → o ≡ Some j
number_is j None is = absurd (false≢true is)
number_is j (Some i) is = ap Some (eqb-true i j is)

is_number_at : (j : ℕ) (o : Option ℕ) → o ≡ Some j → is_number j o ≡ true
is_number_at j o is = ap (is_number j) is ∙ eq-eqb j j refl

module _ (was : List (Option ℕ)) where
  pub continues_within : (j k : ℕ) → Continues was j k → k < length was
  continues_within j k there = elim (cases_lt k (length was)) [
    | inl within ↦ within
    | inr past ↦ absurd (none-some j (sym (get_or_past was k None past) ∙ there))
  ]

  pub becomes_continues : (j k : ℕ) → becomes was j ≡ Some k → Continues was j k
  becomes_continues j k is = number_is j (get_or was k None) (position-Some (is_number j) was k None is).1

  pub continues_becomes : (j k : ℕ) → Continues was j k → (l : ℕ) × (becomes was j ≡ Some l)
  continues_becomes j k there =
      let found = position_there (is_number j) was k None (continues_within j k there) (is_number_at j (get_or was k None) there) in
      (found.0, found.1)

  pub none_continues : (j : ℕ) → becomes was j ≡ None → (k : ℕ) → Continues was j k → ⊥
  none_continues j none k there =
      let found = continues_becomes j k there in
      none-some found.0 (sym none ∙ found.1)

  pub cases_becomes : (j : ℕ) → (becomes was j ≡ None) ⊎ ((k : ℕ) × (becomes was j ≡ Some k))
  cases_becomes j = elim (becomes was j) as (λ o. (o ≡ None) ⊎ ((k : ℕ) × (o ≡ Some k))) [ None ↦ inl refl | Some k ↦ inr (k, refl) ]

cases_option : (o : Option ℕ) → (o ≡ None) ⊎ ((k : ℕ) × (o ≡ Some k))
cases_option None = inl refl
cases_option (Some k) = inr (k, refl)

-- ---- as far as it has come: to the new links below k, at that distance

module _ (far : ℕ → ℕ → ℕ) where
  abbrev pub Before : ℕ → ℕ → ℕ → ℕ → Type 0
  Before distance i r k = (distance < r) ⊎ ((distance ≡ r) × (i < k))

  abbrev pub Nearest : List (Option ℕ) → ℕ → ℕ → Type 0
  Nearest was j k =
      ((i : ℕ) × Continues was i k × ComesFirst (far i k) i (far j k) j)
      ⊎ ((l : ℕ) × Continues was j l × ComesFirst (far j l) l (far j k) k)

  pub record SoFar (r k : ℕ) (was : List (Option ℕ)) : Type 0 where
    pub early : (j i : ℕ) → Continues was j i → Before (far j i) i r k
    pub once : (j i l : ℕ) → Continues was j i → Continues was j l → i ≡ l
    pub nearest : (j i : ℕ) → Before (far j i) i r k → Nearest was j i

  before_more : (distance i r k : ℕ) → Before distance i r k → Before distance i r (suc k)
  before_more distance i r k (inl less) = inl less
  before_more distance i r k (inr here) = inr (here.0, omega (arith, here.1))

  -- what comes before the next new link, came before or is of that link
  before_cases : (distance i r k : ℕ) → Before distance i r (suc k) → Before distance i r k ⊎ ((distance ≡ r) × (i ≡ k))
  before_cases distance i r k (inl less) = inl (inl less)
  before_cases distance i r k (inr here) = elim (cases_eq i k) [
    | inl last ↦ inr (here.0, last)
    | inr other ↦ inl (inr (here.0, omega (arith, here.1, other)))
  ]

  -- ---- a new link that continues one already

  module _ (r k : ℕ) (was : List (Option ℕ)) (so_far : SoFar r k was) where
    nearest_by_itself : (j i : ℕ) → Continues was i k → far j k ≡ r → Nearest was j k
    nearest_by_itself j i there distance = elim (so_far.early i k there) [
      | inl less ↦ inl (i, there, inl (omega (arith, less, distance)))
      | inr here ↦ absurd (omega (arith, here.1))
    ]

    pub kept_more : (i : ℕ) → Continues was i k → SoFar r (suc k) was
    kept_more i there = record {
      early = λ j l c. before_more (far j l) l r k (so_far.early j l c);
      once = so_far.once;
      nearest = λ j l before. elim (before_cases (far j l) l r k before) [
        | inl earlier ↦ so_far.nearest j l earlier
        | inr last ↦
            let distance : far j k ≡ r = ap (far j) (sym last.1) ∙ last.0 in
            subst (λ (m : ℕ). Nearest was j m) (sym last.1) (nearest_by_itself j i there distance)
      ];
    }

    -- ---- a new link that continues none yet

    module _ (count : ℕ) (within : k < length was) (none : get_or was k None ≡ None) where
      abbrev found : Option ℕ
      found = first_below (is_free far r was k) count

      abbrev next : List (Option ℕ)
      next = set was k found

      next_here : get_or next k None ≡ found
      next_here = get_or-set_same was k found None within

      next_other : (i : ℕ) → i ≢ k → get_or next i None ≡ get_or was i None
      next_other i other = get_or-set_other was k i found None other

      stays : (j i : ℕ) → Continues was j i → Continues next j i
      stays j i there =
          let other : i ≢ k = λ e. none-some j (sym none ∙ ap (λ (m : ℕ). get_or was m None) (sym e) ∙ there) in
          next_other i other ∙ there

      comes : (j i : ℕ) → Continues next j i → Continues was j i ⊎ ((i ≡ k) × (found ≡ Some j))
      comes j i there = elim (cases_eq i k) [
        | inl here ↦ inr (here, sym next_here ∙ ap (λ (m : ℕ). get_or next m None) (sym here) ∙ there)
        | inr other ↦ inl (sym (next_other i other) ∙ there)
      ]

      free_parts : (j : ℕ) → is_free far r was k j ≡ true → (far j k ≡ r) × (becomes was j ≡ None)
      free_parts j free =
          let parts = and_parts (far j k == r) (not (is_some (becomes was j))) free in (
            eqb-true (far j k) r parts.0,
            elim (cases_becomes was j) [
              | inl none_yet ↦ none_yet
              | inr some ↦ absurd (false≢true (ap (λ (o : Option ℕ). not (is_some o)) (sym some.1) ∙ parts.1))
            ],
          )

      found_free : (j : ℕ) → found ≡ Some j → (far j k ≡ r) × (becomes was j ≡ None)
      found_free j is = free_parts j (first_some (is_free far r was k) count j is).passes

      early_next : (j i : ℕ) → Continues next j i → Before (far j i) i r (suc k)
      early_next j i there = elim (comes j i there) [
        | inl before ↦ before_more (far j i) i r k (so_far.early j i before)
        | inr new ↦ inr (ap (far j) new.0 ∙ (found_free j new.1).0, omega (arith, new.0))
      ]

      apart_from : (j i l : ℕ) → Continues was j i → found ≡ Some j → i ≡ l
      apart_from j i l there is = absurd (none_continues was j (found_free j is).1 i there)

      once_next : (j i l : ℕ) → Continues next j i → Continues next j l → i ≡ l
      once_next j i l at_i at_l = elim (comes j i at_i) [
        | inl before_i ↦ elim (comes j l at_l) [
          | inl before_l ↦ so_far.once j i l before_i before_l
          | inr new_l ↦ apart_from j i l before_i new_l.1
        ]
        | inr new_i ↦ elim (comes j l at_l) [
          | inl before_l ↦ sym (apart_from j l i before_l new_i.1)
          | inr new_l ↦ new_i.0 ∙ sym new_l.0
        ]
      ]

      keeps_nearest : (j i : ℕ) → Nearest was j i → Nearest next j i
      keeps_nearest j i (inl new) = inl (new.0, stays new.0 i new.1, new.2)
      keeps_nearest j i (inr old) = inr (old.0, stays j old.0 old.1, old.2)

      -- one that is taken went to a link that comes first
      nearest_taken : (j : ℕ) → far j k ≡ r → (l : ℕ) → becomes was j ≡ Some l → Nearest next j k
      nearest_taken j distance l is =
          let there = becomes_continues was j l is in
          inr (
            l,
            stays j l there,
            elim (so_far.early j l there) [
              | inl less ↦ inl (omega (arith, less, distance))
              | inr before ↦ inr (before.0 ∙ sym distance, omega (arith, before.1))
            ],
          )

      -- one that is free stands behind the first that is
      nearest_free : (j : ℕ) → j < count → far j k ≡ r → is_free far r was k j ≡ true → Nearest next j k
      nearest_free j there distance free = elim (cases_option found) [
        | inl nobody ↦ absurd (false≢true (sym (first_none (is_free far r was k) count nobody j there) ∙ free))
        | inr some ↦
            let first = first_some (is_free far r was k) count some.0 some.1 in
            inl (
              some.0,
              next_here ∙ some.1,
              inr (
                (free_parts some.0 first.passes).0 ∙ sym distance,
                elim (cases_lt j some.0) [
                  | inl less ↦ absurd (false≢true (sym (first.before j less) ∙ free))
                  | inr behind ↦ behind
                ],
              ),
            )
      ]

      nearest_here : (j : ℕ) → j < count → far j k ≡ r → Nearest next j k
      nearest_here j there distance = elim (cases_becomes was j) [
        | inl free ↦
            nearest_free j there distance
            (and_from (far j k == r) (not (is_some (becomes was j))) (eq-eqb (far j k) r distance) (ap (λ (o : Option ℕ). not (is_some o)) free))
        | inr taken ↦ nearest_taken j distance taken.0 taken.1
      ]

      pub found_more : ((j : ℕ) → far j k ≡ r → j < count) → SoFar r (suc k) next
      found_more inside = record {
        early = early_next;
        once = once_next;
        nearest = λ j i before. elim (before_cases (far j i) i r k before) [
          | inl earlier ↦ keeps_nearest j i (so_far.nearest j i earlier)
          | inr last ↦
              let distance : far j k ≡ r = ap (far j) (sym last.1) ∙ last.0 in
              subst (λ (m : ℕ). Nearest next j m) (sym last.1) (nearest_here j (inside j distance) distance)
        ];
      }

  -- ---- all new links, at a distance

  module _ (count r : ℕ) (inside : (j k : ℕ) → far j k ≡ r → j < count) where
    pub link_long : (was : List (Option ℕ)) (k : ℕ) → length (with_link far count r was k) ≡ length was
    link_long was k = elim (cases_Bool (is_some (get_or was k None))) [
      | inl some ↦ ap (λ (b : Bool). length (if b then was else set was k (first_below (is_free far r was k) count))) some
      | inr none ↦
          ap (λ (b : Bool). length (if b then was else set was k (first_below (is_free far r was k) count))) none
          ∙ length-set was k (first_below (is_free far r was k) count)
    ]

    pub links_long : (was : List (Option ℕ)) (n : ℕ) → length (with_links far count r was n) ≡ length was
    links_long was zero = refl
    links_long was (suc n) = link_long (with_links far count r was n) n ∙ links_long was n

    link_more : (was : List (Option ℕ)) (k : ℕ) → k < length was → SoFar r k was → SoFar r (suc k) (with_link far count r was k)
    link_more was k within so_far = elim (cases_option (get_or was k None)) [
      | inl none ↦
          subst (λ (o : Option ℕ). SoFar r (suc k) (if is_some o then was else set was k (first_below (is_free far r was k) count))) (sym none)
          (found_more r k was so_far count within none (λ j distance. inside j k distance))
      | inr some ↦
          subst (λ (o : Option ℕ). SoFar r (suc k) (if is_some o then was else set was k (first_below (is_free far r was k) count))) (sym some.1)
          (kept_more r k was so_far some.0 some.1)
    ]

    pub links_more : (was : List (Option ℕ)) (n : ℕ) → n ≤ length was → SoFar r 0 was → SoFar r n (with_links far count r was n)
    links_more was zero within so_far = so_far
    links_more was (suc n) within so_far =
        link_more (with_links far count r was n) n (omega (arith, within, links_long was n)) (links_more was n (omega (arith, within)) so_far)

  -- the next distance
  pub farther : (r n : ℕ) (was : List (Option ℕ)) → ((j i : ℕ) → far j i ≡ r → i < n) → SoFar r n was → SoFar (suc r) 0 was
  farther r n was inside so_far = record {
    early = λ j i there. elim (so_far.early j i there) [ inl less ↦ inl (omega (arith, less)) | inr here ↦ inl (omega (arith, here.0)) ];
    once = so_far.once;
    nearest = λ j i before. elim before [
      | inl less ↦ so_far.nearest j i (elim (cases_eq (far j i) r) [
        | inl here ↦ inr (here, inside j i here)
        | inr other ↦ inl (omega (arith, less, other))
      ])
      | inr here ↦ absurd (omega (arith, here.1))
    ];
  }

  none_at_first : (n j i : ℕ) → Continues (replicate n None) j i → ⊥
  none_at_first n j i there = elim (cases_lt i n) [
    | inl within ↦ none-some j (sym (get_or-replicate n i None None within) ∙ there)
    | inr past ↦
        let nobody : List (Option ℕ) = replicate n None in
        let long : length nobody ≡ n = length-replicate n None in
        none-some j (sym (get_or_past nobody i None (omega (arith, past, long))) ∙ there)
  ]

  pub at_first : (n : ℕ) → SoFar 0 0 (replicate n None)
  at_first n = record {
    early = λ j i there. absurd (none_at_first n j i there);
    once = λ j i l there. absurd (none_at_first n j i there);
    nearest = λ j i before. elim before [ inl less ↦ absurd (omega (arith, less)) | inr here ↦ absurd (omega (arith, here.1)) ];
  }

-- ---- both distances

apart_past : (old new : List Link) (j k : ℕ) → length new ≤ k → distance_at old new j k ≡ apart
apart_past old new j k past = grind (arith, slice_get_past)

apart_before : (old new : List Link) (j k : ℕ) → length old ≤ j → distance_at old new j k ≡ apart
apart_before old new j k past = grind (arith, slice_get_past)

module _ (old new : List Link) where
  pub new_within : (j k : ℕ) → distance_at old new j k < apart → k < length new
  new_within j k near = elim (cases_lt k (length new)) [
    | inl within ↦ within
    | inr past ↦ absurd (omega (arith, near, apart_past old new j k past))
  ]

  pub old_within : (j k : ℕ) → distance_at old new j k < apart → j < length old
  old_within j k near = elim (cases_lt j (length old)) [
    | inl within ↦ within
    | inr past ↦ absurd (omega (arith, near, apart_before old new j k past))
  ]

  pub paired_is : IsPairing old new (paired old new)
  paired_is =
      let far = distance_at old new in
      let n = length new in
      let none : List (Option ℕ) = replicate n None in
      let long : length none ≡ n = length-replicate n None in
      let close = with_links far (length old) same none n in
      let first = links_more far (length old) same (λ j k e. old_within j k (omega (arith, e))) none n (omega (arith, long)) (at_first far n) in
      let second = farther far same n close (λ j k e. new_within j k (omega (arith, e))) first in
      let close_long = links_long far (length old) same (λ j k e. old_within j k (omega (arith, e))) none n in
      let last = links_more far (length old) at_port (λ j k e. old_within j k (omega (arith, e))) close n (omega (arith, long, close_long)) second in
      let done = farther far at_port n (paired old new) (λ j k e. new_within j k (omega (arith, e))) last in
      record {
        count = links_long far (length old) at_port (λ j k e. old_within j k (omega (arith, e))) close n ∙ close_long ∙ long;
        alike = λ j k there. elim (done.early j k there) [ inl less ↦ less | inr here ↦ absurd (omega (arith, here.1)) ];
        once = done.once;
        nearest = λ j k near. done.nearest j k (inl near);
      }

-- ---- as the code leaves them

refill_all : (xs ws : List (Option ℕ)) → length ws ≡ length xs → refill (length xs) xs ws ≡ ws
refill_all xs ws long = grind (arith, take_at)

module _ (old new : List Link) where
  abbrev found_of : ℕ → List (Option ℕ) → List (Option ℕ)
  found_of distance was = with_links (distance_at old new) (length old) distance was (length new)

  found_long : (distance : ℕ) (was : List (Option ℕ)) → distance < apart → length (found_of distance was) ≡ length was
  found_long distance was near = links_long (distance_at old new) (length old) distance (λ j k e. old_within old new j k (omega (arith, e, near))) was (length new)

  pub paired_from : (first second third : List (Option ℕ)) → first ≡ replicate (length new) None → second ≡ found_of same first
      → third ≡ found_of at_port (refill (length first) first second)
      → IsPairing old new (refill (length (refill (length first) first second)) (refill (length first) first second) third)
  paired_from first second third none close all =
      let long : length second ≡ length first = ap length close ∙ found_long same first (omega arith) in
      let kept : refill (length first) first second ≡ second = refill_all first second long in
      let from : third ≡ found_of at_port second = all ∙ ap (found_of at_port) kept in
      let also : length third ≡ length second = ap length from ∙ found_long at_port second (omega arith) in
      let last : refill (length second) second third ≡ third = refill_all second third also in
      let is : third ≡ paired old new = from ∙ ap (found_of at_port) (close ∙ ap (found_of same) none) in
      subst (IsPairing old new) (sym (ap (λ (l : List (Option ℕ)). refill (length l) l third) kept ∙ last ∙ is)) (paired_is old new)
