-- What is left of a response.
use Rattle.std.proofs.Common.{◌≡◌, ◌≢◌, ◌∙◌, refl, sym, ap, ap₂, arith, ℕ, ◌+◌, ◌*◌, ◌≤◌, Bool, List, [], ◌∷◌, length, take, length-append, length-take-le, None, Some}
use Rattle.std.specs.Int.{to_be_bytes, w16}
use Rattle.std.specs.List.{filter, concat}
use Rattle.std.proofs.lemmas.Bool.{eq-eqb, ne_eqb}
use Rattle.ipx_wire.specs.Numbers.{no_checksum}
use Rattle.ipx_edge.specs.Places.{with_at}
use Rattle.ipx_edge.specs.Filtered.{with_entries, with_some, with_kept}
use Rattle.ipx_edge.specs.declared.listing.Listed.{Listed}
use Rattle.ipx_edge.specs.declared.listing.Listed.TheVariants.{Routes, Services}
use Rattle.ipx_edge.specs.inside.Verdict.{size_of, first, Keeps}
use Rattle.ipx_edge.proofs.Pieces.{length_with, front_of_with}

-- so many entries of a size take as many bytes as others only if they are as many
as_many : (listed : Listed) (a b : ℕ) → 32 + size_of listed * a ≡ 32 + size_of listed * b → a ≡ b
as_many Routes a b e = omega (arith, e)
as_many Services a b e = omega (arith, e)

no_size : (listed : Listed) → 32 ≡ 32 + size_of listed * 0
no_size Routes = omega arith
no_size Services = omega arith

no_entries : (es : List (List ℕ)) → length es ≡ 0 → es ≡ []
no_entries [] e = refl
no_entries (x ∷ xs) e = absurd (omega (arith, e))

some_is : (es : List (List ℕ)) (bytes : List ℕ) → length es ≢ 0 → with_some es bytes ≡ Some (with_entries es bytes)
some_is [] bytes some = absurd (some refl)
some_is (x ∷ xs) bytes some = refl

module _ (passes : List ℕ → Bool) (listed : Listed) (count : ℕ) (old now : List ℕ) (end : ℕ)
    (is : Keeps passes (size_of listed) count old now (32 + size_of listed * count) end) (room : 32 + size_of listed * count ≤ length old) where
  abbrev kept : List (List ℕ)
  kept = filter passes (first (size_of listed) count old)

  -- all are kept
  pub whole : end ≡ 32 + size_of listed * count → now ≡ old × (Some now ≡ with_kept count kept old)
  whole level =
      let same = is.same level in
      let many : length kept ≡ count = as_many listed (length kept) count (sym is.to_is ∙ level) in
      (same, ap (λ (l : List ℕ). Some l) same ∙ rw (eq-eqb (length kept) count many) refl)

  -- none is
  pub nothing_left : end ≢ 32 + size_of listed * count → end ≡ 32 → None ≡ with_kept count kept old
  nothing_left some none =
      let zero_is : 32 ≡ 32 + size_of listed * 0 = no_size listed in
      let few : length kept ≡ 0 = as_many listed (length kept) 0 (sym is.to_is ∙ none ∙ zero_is) in
      let other : length kept ≢ count = λ e. some (is.to_is ∙ ap (λ (m : ℕ). 32 + size_of listed * m) e) in
      rw (ne_eqb (length kept) count other, no_entries kept few) refl

  -- some are, and not all
  pub part : end ≢ 32 + size_of listed * count → end ≢ 32 → (new : List ℕ)
      → new ≡ with_at 0 (to_be_bytes w16 no_checksum) (with_at 2 (to_be_bytes w16 end) now) → Some (take end new) ≡ with_kept count kept old
  part some more new new_is =
      let other : length kept ≢ count = λ e. some (is.to_is ∙ ap (λ (m : ℕ). 32 + size_of listed * m) e) in
      let left : length kept ≢ 0 = λ e. more (is.to_is ∙ ap (λ (m : ℕ). 32 + size_of listed * m) e ∙ sym (no_size listed)) in
      let within : end ≤ length now = omega (arith, is.order, room, is.long) in
      let least : 32 ≤ end = omega (arith, is.to_is) in
      let front : length (take 32 old) ≡ 32 = length-take-le 32 old (omega (arith, room)) in
      let size : end ≡ 32 + length (concat kept) =
      sym (length-take-le end now within) ∙ ap length is.front ∙ length-append (take 32 old) (concat kept) ∙ ap (λ (m : ℕ). m + length (concat kept)) front in
      let counted = with_at 2 (to_be_bytes w16 end) now in
      let long : length counted ≡ length now = length_with 2 (to_be_bytes w16 end) now (omega (arith, least, within)) in
      let bytes : take end new ≡ with_entries kept old =
      ap (take end) new_is
      ∙ front_of_with 0 (to_be_bytes w16 no_checksum) counted (omega (arith, least, within, long)) end (omega (arith, least)) (omega (arith, within, long))
      ∙ ap (with_at 0 (to_be_bytes w16 no_checksum))
      (front_of_with 2 (to_be_bytes w16 end) now (omega (arith, least, within)) end (omega (arith, least)) within
      ∙ ap₂ (λ (m : ℕ) (l : List ℕ). with_at 2 (to_be_bytes w16 m) l) size is.front) in
      ap (λ (l : List ℕ). Some l) bytes ∙ sym (some_is kept old left) ∙ rw (ne_eqb (length kept) count other) refl
