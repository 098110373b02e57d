-- Ports, one after the other.
use Rattle.std.proofs.Common.{◌≡◌, ◌∙◌, refl, sym, ap, arith, ℕ, ◌+◌, ◌<◌, ◌≤◌, Bool, true, false, ◌&&◌, nat_eq, eq-eqb, ne_eqb, inl, inr, List, [], ◌∷◌, length, drop, get_or, slice_get, option_map}
use Rattle.std.specs.Cmp.Lexicographic.{pointwise}
use Rattle.std.proofs.lemmas.Bool.{cases_lt, false≢true, and_left}
use Rattle.std.proofs.lemmas.List.{drop_more, drop_all}
use Rattle.std.proofs.lemmas.Option.{slice_get-get_or, slice_get_past, same_Some}
use Rattle.ipx_plan.specs.declared.link.Link.{Link}
use Rattle.ipx_plan.specs.Routing.{ports, same_port, keeps_router}
use Rattle.ipx_plan.specs.inside.Ports.{IsPort, IsNextPort, is_port_like}
use Rattle.ipx_plan.proofs.Blank.{blank}

module _ (links : List Link) (k : ℕ) where
  module _ (d : Link) (within : k < length links) where
    pub ports_skip : (get_or links k d).is_first ≡ false → ports (drop k links) ≡ ports (drop (k + 1) links)
    ports_skip other = ap ports (drop_more links k d within) ∙ rw other refl

    pub ports_take : (get_or links k d).is_first ≡ true → ports (drop k links) ≡ get_or links k d ∷ ports (drop (k + 1) links)
    ports_take first = ap ports (drop_more links k d within) ∙ rw first refl

  pub ports_end : length links ≤ k → ports (drop k links) ≡ []
  ports_end past = ap ports (drop_all k links past)

  pub is_port : (within : k < length links) → IsPort links k → (get_or links k blank).is_first ≡ true
  is_port within port =
      same_Some (get_or links k blank).is_first true
      (ap (option_map (λ (l : Link). l.is_first)) (sym (slice_get-get_or links k blank within)) ∙ port within)

-- ---- two lists, as far as they have been compared

module _ (old new : List Link) (j k : ℕ) (rest : pointwise same_port (ports (drop j old)) (ports (drop k new)) ≡ keeps_router old new) (port : IsPort new k) where
  module _ (there : j < length old) (first : (get_or old j blank).is_first ≡ true) where
    abbrev before : Link
    before = get_or old j blank

    ahead : pointwise same_port (before ∷ ports (drop (j + 1) old)) (ports (drop k new)) ≡ keeps_router old new
    ahead = ap (λ (l : List Link). pointwise same_port l (ports (drop k new))) (sym (ports_take old j blank there first)) ∙ rest

    -- with the next link, which is there
    both : (within : k < length new)
        → (same_port before (get_or new k blank) && pointwise same_port (ports (drop (j + 1) old)) (ports (drop (k + 1) new))) ≡ keeps_router old new
    both within =
        ap (pointwise same_port (before ∷ ports (drop (j + 1) old))) (sym (ports_take new k blank within (is_port new k within port))) ∙ ahead

    pub other_port : is_port_like before (slice_get new k) ≡ false → keeps_router old new ≡ false
    other_port other = elim (cases_lt k (length new)) [
      | inl within ↦
          let apart : same_port before (get_or new k blank) ≡ false =
          ap (is_port_like before) (sym (slice_get-get_or new k blank within)) ∙ other in
          sym (both within) ∙ and_left (same_port before (get_or new k blank)) (pointwise same_port (ports (drop (j + 1) old)) (ports (drop (k + 1) new))) apart
      | inr past ↦ sym ahead ∙ ap (pointwise same_port (before ∷ ports (drop (j + 1) old))) (ports_end new k past)
    ]

    pub within_new : is_port_like before (slice_get new k) ≡ true → k < length new
    within_new alike = elim (cases_lt k (length new)) [
      | inl within ↦ within
      | inr past ↦ absurd (false≢true (ap (is_port_like before) (sym (slice_get_past new k past)) ∙ alike))
    ]

    pub next_ports : (next : ℕ) → is_port_like before (slice_get new k) ≡ true → IsNextPort new (k + 1) next
        → pointwise same_port (ports (drop (j + 1) old)) (ports (drop next new)) ≡ keeps_router old new
    next_ports next alike is =
        let within = within_new alike in
        let same : same_port before (get_or new k blank) ≡ true =
        ap (is_port_like before) (sym (slice_get-get_or new k blank within)) ∙ alike in
        ap (pointwise same_port (ports (drop (j + 1) old))) (sym is.same)
        ∙ ap (λ (b : Bool). b && pointwise same_port (ports (drop (j + 1) old)) (ports (drop (k + 1) new))) (sym same) ∙ both within

  pub skipped : (there : j < length old) → (get_or old j blank).is_first ≡ false
      → pointwise same_port (ports (drop (j + 1) old)) (ports (drop k new)) ≡ keeps_router old new
  skipped there other = ap (λ (l : List Link). pointwise same_port l (ports (drop k new))) (sym (ports_skip old j blank there other)) ∙ rest

  pub all_compared : length old ≤ j → k ≤ length new → nat_eq k (length new) ≡ keeps_router old new
  all_compared past within =
      let done : pointwise same_port [] (ports (drop k new)) ≡ keeps_router old new =
      ap (λ (l : List Link). pointwise same_port l (ports (drop k new))) (sym (ports_end old j past)) ∙ rest in
      elim (cases_lt k (length new)) [
        | inl more ↦
            ne_eqb k (length new) (λ e. omega (arith, e, more))
            ∙ ap (pointwise same_port []) (sym (ports_take new k blank more (is_port new k more port))) ∙ done
        | inr none ↦
            eq-eqb k (length new) (omega (arith, none, within)) ∙ ap (pointwise same_port []) (sym (ports_end new k none)) ∙ done
      ]

-- ---- a loop's step

pub record Compared (old new : List Link) (j k : ℕ) : Type 0 where
  pub rest : pointwise same_port (ports (drop j old)) (ports (drop k new)) ≡ keeps_router old new
  pub within : k ≤ length new
  pub first : IsPort new k

pub compared_more : (old new : List Link) (j k next : ℕ) → Compared old new j k → j < length old → (get_or old j blank).is_first ≡ true
    → is_port_like (get_or old j blank) (slice_get new k) ≡ true → IsNextPort new (k + 1) next → Compared old new (j + 1) next
compared_more old new j k next c there first alike is = record {
  rest = next_ports old new j k c.rest c.first there first next alike is;
  within = is.within;
  first = is.first;
}

pub compared_same : (old new : List Link) (j k : ℕ) → Compared old new j k → j < length old → (get_or old j blank).is_first ≡ false
    → Compared old new (j + 1) k
compared_same old new j k c there other = record {
  rest = skipped old new j k c.rest c.first there other;
  within = c.within;
  first = c.first;
}
