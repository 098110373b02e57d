-- Links that stand beside each other are apart, whatever the lines are.
use Rattle.std.proofs.Common.{◌≡◌, ℕ, zero, suc, ◌+◌, ◌-◌, ◌<◌, ◌≤◌, true, false, List, [], ◌∷◌, ◌++◌, length, take, set, get_or, refl, sym, ap, subst, ◌∙◌, arith, Some, None, inl, inr, true≢false, length-append}
use Rattle.std.specs.Prelude.{slice_get}
use Rattle.std.specs.List.{position, position_or_len}
use Rattle.std.specs.Option.{is_some}
use Rattle.std.proofs.lemmas.Bool.{cases_lt, cases_eq, lt-ltb, le-leb}
use Rattle.std.proofs.lemmas.List.{length-take-le, take_more_set, length-set}
use Rattle.std.proofs.lemmas.List.Sums.{passes_at_first, fails_before_first}
use Rattle.std.proofs.lemmas.Option.{same_Some, slice_get_within, slice_get-get_or, get_or_from_slice_get}
use Rattle.ipx_configuration.specs.Clashes.{clash, clashes, first_clash}
use Rattle.ipx_configuration.specs.Memory.{links_in, last_link, with_link, with_last_link}
use Rattle.ipx_configuration.specs.Configurations.{after}
use Rattle.ipx_configuration.specs.Wholes.{after_lines, AreApart, AreOrdered, IsBlank}
use Rattle.ipx_configuration.specs.declared.configuration.Capacity.{Capacity}
use Rattle.ipx_configuration.specs.declared.configuration.Configuration.{Configuration}
use Rattle.ipx_configuration.specs.declared.carrier.Carrier.{Carrier}
use Rattle.ipx_configuration.specs.declared.memory.LinkList.{LinkList}
use Rattle.ipx_configuration.specs.declared.said.LinkSetting.{LinkSetting}
use Rattle.ipx_configuration.proofs.Adding.{no_fault}
use Rattle.ipx_configuration.proofs.Growing.{grows}
use Rattle.ipx_configuration.proofs.Following.{Follows, same, more, again, follows}

-- ---- what stands at a place

module _ {X : Type 0} where
  get_front : (xs ys : List X) (i : ℕ) → i < length xs → slice_get (xs ++ ys) i ≡ slice_get xs i
  get_front [] ys i less = absurd (omega (arith, less))
  get_front (x ∷ xs) ys zero less = refl
  get_front (x ∷ xs) ys (suc i) less = get_front xs ys i (omega (arith, less))

  get_end : (xs : List X) (x : X) → slice_get (xs ++ x ∷ []) (length xs) ≡ Some x
  get_end [] x = refl
  get_end (y ∷ xs) x = get_end xs x

  get_before : (xs : List X) (k i : ℕ) (x : X) → i < k → slice_get (set xs k x) i ≡ slice_get xs i
  get_before [] k i x less = refl
  get_before (y ∷ xs) zero i x less = absurd (omega (arith, less))
  get_before (y ∷ xs) (suc k) zero x less = refl
  get_before (y ∷ xs) (suc k) (suc i) x less = get_before xs k i x (omega (arith, less))

  get_there : (xs : List X) (k : ℕ) (x : X) → k < length xs → slice_get (set xs k x) k ≡ Some x
  get_there [] k x less = absurd (omega (arith, less))
  get_there (y ∷ xs) zero x less = refl
  get_there (y ∷ xs) (suc k) x less = get_there xs k x (omega (arith, less))

  pub get_take : (xs : List X) (n i : ℕ) → i < n → slice_get (take n xs) i ≡ slice_get xs i
  get_take xs zero i less = absurd (omega (arith, less))
  get_take [] (suc n) i less = refl
  get_take (x ∷ xs) (suc n) zero less = refl
  get_take (x ∷ xs) (suc n) (suc i) less = get_take xs n i (omega (arith, less))

  pub take_set : (n : ℕ) (xs : List X) (i : ℕ) (x : X) → take n (set xs i x) ≡ set (take n xs) i x
  take_set zero xs i x = refl
  take_set (suc n) [] i x = refl
  take_set (suc n) (y ∷ xs) zero x = refl
  take_set (suc n) (y ∷ xs) (suc i) x = ap (λ v. y ∷ v) (take_set n xs i x)

-- ---- lists of links

-- what clashes with no link clashes with none of them
pub free_of_each : (network : ℕ) (carrier : Carrier) (xs : List LinkSetting) (i : ℕ) (a : LinkSetting)
    → first_clash network carrier xs ≡ None → slice_get xs i ≡ Some a → clash network carrier a ≡ None
free_of_each network carrier xs i a none there =
    let n = position_or_len (clashes network carrier) xs in
    elim (cases_lt n (length xs)) [
      | inl below ↦
          let at : slice_get xs n ≡ Some (get_or xs n a) = slice_get-get_or xs n a below in
          let passes : clashes network carrier (get_or xs n a) ≡ true = passes_at_first (clashes network carrier) xs a below in
          let found : position (clashes network carrier) xs ≡ Some n = rw (lt-ltb n (length xs) below) refl in
          let is : first_clash network carrier xs ≡ clash network carrier (get_or xs n a) = rw (found, at) refl in
          absurd (true≢false (sym passes ∙ ap is_some (sym is ∙ none)))
      | inr past ↦
          let within : i < length xs = slice_get_within xs i a there in
          let fails : clashes network carrier (get_or xs i a) ≡ false = fails_before_first (clashes network carrier) xs i a (omega (arith, within, past)) in
          no_fault (clash network carrier a) (ap (clashes network carrier) (sym (get_or_from_slice_get xs i a a there)) ∙ fails)
    ]

-- links of one network stand behind each other, and each has one
pub record ArePlaced (networks : ℕ) (xs : List LinkSetting) : Type 0 where
  pub inside : (k : ℕ) (x : LinkSetting) → slice_get xs k ≡ Some x → x.network < networks
  pub ordered : AreOrdered xs

in_more : (xs : List LinkSetting) (x : LinkSetting) (p : LinkSetting → Type 0) → ((k : ℕ) (a : LinkSetting) → slice_get xs k ≡ Some a → p a) → p x
    → (k : ℕ) (a : LinkSetting) → slice_get (xs ++ x ∷ []) k ≡ Some a → p a
in_more xs x p front end k a at =
    let room : length (xs ++ x ∷ []) ≡ length xs + 1 = length-append xs (x ∷ []) in
    let within : k < length (xs ++ x ∷ []) = slice_get_within (xs ++ x ∷ []) k a at in
    elim (cases_lt k (length xs)) [
      | inl inside ↦ front k a (sym (get_front xs (x ∷ []) k inside) ∙ at)
      | inr past ↦
          let last : k ≡ length xs = omega (arith, room, within, past) in
          subst p (same_Some x a (sym (get_end xs x) ∙ ap (slice_get (xs ++ x ∷ [])) (sym last) ∙ at)) end
    ]

placed_more : (old networks : ℕ) (xs : List LinkSetting) (x : LinkSetting) → old ≤ networks → ArePlaced old xs → x.network + 1 ≡ networks
    → ArePlaced networks (xs ++ x ∷ [])
placed_more old networks xs x grown p last = record {
  inside = in_more xs x (λ v. v.network < networks) (λ k a at. let low = p.inside k a at in omega (arith, low, grown)) (omega (arith, last));
  ordered = λ i j a b less at_i at_j.
      let room : length (xs ++ x ∷ []) ≡ length xs + 1 = length-append xs (x ∷ []) in
      let within : j < length (xs ++ x ∷ []) = slice_get_within (xs ++ x ∷ []) j b at_j in
      let front : i < length xs = omega (arith, room, within, less) in
      let a_is : slice_get xs i ≡ Some a = sym (get_front xs (x ∷ []) i front) ∙ at_i in
      elim (cases_lt j (length xs)) [
        | inl inside ↦ p.ordered i j a b less a_is (sym (get_front xs (x ∷ []) j inside) ∙ at_j)
        | inr past ↦
            let end : j ≡ length xs = omega (arith, room, within, past) in
            let b_is : x ≡ b = same_Some x b (sym (get_end xs x) ∙ ap (slice_get (xs ++ x ∷ [])) (sym end) ∙ at_j) in
            let low = p.inside i a a_is in
            subst (λ v. a.network ≤ v.network) b_is (omega (arith, low, grown, last))
      ];
}

placed_again : (old networks : ℕ) (xs : List LinkSetting) (k : ℕ) (was x : LinkSetting) → old ≤ networks → ArePlaced old xs → slice_get xs k ≡ Some was
    → k + 1 ≡ length xs → x.network ≡ was.network → ArePlaced networks (set xs k x)
placed_again old networks xs k was x grown p there last kept = record {
  inside = λ j b at.
      let within : j < length (set xs k x) = slice_get_within (set xs k x) j b at in
      let room : length (set xs k x) ≡ length xs = length-set xs k x in
      elim (cases_lt j k) [
        | inl before ↦ let low = p.inside j b (sym (get_before xs k j x before) ∙ at) in omega (arith, low, grown)
        | inr past ↦
            let here : j ≡ k = omega (arith, room, within, past, last) in
            let inside : k < length xs = omega (arith, last) in
            let b_is : x ≡ b = same_Some x b (sym (get_there xs k x inside) ∙ ap (slice_get (set xs k x)) (sym here) ∙ at) in
            let low = p.inside k was there in
            subst (λ v. v.network < networks) b_is (omega (arith, low, grown, kept))
      ];
  ordered = λ i j a b less at_i at_j.
      let within : j < length (set xs k x) = slice_get_within (set xs k x) j b at_j in
      let room : length (set xs k x) ≡ length xs = length-set xs k x in
      let front : i < k = omega (arith, room, within, less, last) in
      let a_is : slice_get xs i ≡ Some a = sym (get_before xs k i x front) ∙ at_i in
      elim (cases_lt j k) [
        | inl before ↦ p.ordered i j a b less a_is (sym (get_before xs k j x before) ∙ at_j)
        | inr past ↦
            let here : j ≡ k = omega (arith, room, within, past, last) in
            let inside : k < length xs = omega (arith, last) in
            let b_is : x ≡ b = same_Some x b (sym (get_there xs k x inside) ∙ ap (slice_get (set xs k x)) (sym here) ∙ at_j) in
            let low = p.ordered i k a was front a_is there in
            subst (λ v. a.network ≤ v.network) b_is (omega (arith, low, kept))
      ];
}

placed_still : (old networks : ℕ) (xs : List LinkSetting) → old ≤ networks → ArePlaced old xs → ArePlaced networks xs
placed_still old networks xs grown p = record { inside = λ k x at. let low = p.inside k x at in omega (arith, low, grown); ordered = p.ordered }

apart_more : (xs : List LinkSetting) (x : LinkSetting) → AreApart xs → first_clash x.network x.carrier xs ≡ None → AreApart (xs ++ x ∷ [])
apart_more xs x apart free i j a b less at_i at_j =
    let room : length (xs ++ x ∷ []) ≡ length xs + 1 = length-append xs (x ∷ []) in
    let within : j < length (xs ++ x ∷ []) = slice_get_within (xs ++ x ∷ []) j b at_j in
    let front : i < length xs = omega (arith, room, within, less) in
    let a_is : slice_get xs i ≡ Some a = sym (get_front xs (x ∷ []) i front) ∙ at_i in
    elim (cases_lt j (length xs)) [
      | inl inside ↦ apart i j a b less a_is (sym (get_front xs (x ∷ []) j inside) ∙ at_j)
      | inr past ↦
          let last : j ≡ length xs = omega (arith, room, within, past) in
          let b_is : x ≡ b = same_Some x b (sym (get_end xs x) ∙ ap (slice_get (xs ++ x ∷ [])) (sym last) ∙ at_j) in
          ap (λ (v : LinkSetting). clash v.network v.carrier a) (sym b_is) ∙ free_of_each x.network x.carrier xs i a free a_is
    ]

apart_again : (xs : List LinkSetting) (k : ℕ) (old x : LinkSetting) → AreApart xs → slice_get xs k ≡ Some old → k + 1 ≡ length xs → x.carrier ≡ old.carrier
    → x.network ≡ old.network → AreApart (set xs k x)
apart_again xs k old x apart there last kept stays i j a b less at_i at_j =
    let within : j < length (set xs k x) = slice_get_within (set xs k x) j b at_j in
    let room : length (set xs k x) ≡ length xs = length-set xs k x in
    let front : i < k = omega (arith, room, within, less, last) in
    let a_is : slice_get xs i ≡ Some a = sym (get_before xs k i x front) ∙ at_i in
    elim (cases_lt j k) [
      | inl before ↦ apart i j a b less a_is (sym (get_before xs k j x before) ∙ at_j)
      | inr past ↦
          let here : j ≡ k = omega (arith, room, within, past, last) in
          let inside : k < length xs = omega (arith, last) in
          let b_is : x ≡ b = same_Some x b (sym (get_there xs k x inside) ∙ ap (slice_get (set xs k x)) (sym here) ∙ at_j) in
          ap (λ (v : LinkSetting). clash v.network v.carrier a) (sym b_is) ∙ ap (λ (v : Carrier). clash x.network v a) kept
          ∙ ap (λ (n : ℕ). clash n old.carrier a) stays ∙ apart i k a old front a_is there
    ]

-- ---- memory

pub record Holds (networks : ℕ) (l : LinkList) : Type 0 where
  pub room : length l.list ≡ 64
  pub within : l.count ≤ 64
  pub apart : AreApart (links_in l)
  pub placed : ArePlaced networks (links_in l)

holds_more : (old networks : ℕ) (l : LinkList) (x : LinkSetting) → old ≤ networks → Holds old l → first_clash x.network x.carrier (links_in l) ≡ None → l.count < 64
    → x.network + 1 ≡ networks → Holds networks (with_link l x)
holds_more old networks l x grown h free less last =
    let inside : l.count < length l.list = omega (arith, h.room, less) in
    let longer : take (l.count + 1) (set l.list l.count x) ≡ take l.count l.list ++ x ∷ [] = take_more_set l.list l.count x inside in
    rw (lt-ltb l.count 64 less) (record {
      room = length-set l.list l.count x ∙ h.room;
      within = omega (arith, less);
      apart = subst AreApart (sym longer) (apart_more (links_in l) x h.apart free);
      placed = subst (ArePlaced networks) (sym longer) (placed_more old networks (links_in l) x grown h.placed last);
    })

holds_again : (was networks : ℕ) (l : LinkList) (old x : LinkSetting) → was ≤ networks → Holds was l → 0 < l.count → slice_get l.list (l.count - 1) ≡ Some old
    → x.carrier ≡ old.carrier → x.network ≡ old.network → Holds networks (record { list = set l.list (l.count - 1) x; count = l.count })
holds_again was networks l old x grown h some there kept stays =
    let k = l.count - 1 in
    let less : k < l.count = omega (arith, some) in
    let at : slice_get (links_in l) k ≡ Some old = get_take l.list l.count k less ∙ there in
    let long : length (links_in l) ≡ l.count = length-take-le l.count l.list (omega (arith, h.room, h.within)) in
    record {
      room = length-set l.list k x ∙ h.room;
      within = h.within;
      apart = subst AreApart (sym (take_set l.count l.list k x)) (apart_again (links_in l) k old x h.apart at (omega (arith, long, some)) kept stays);
      placed = subst (ArePlaced networks) (sym (take_set l.count l.list k x))
          (placed_again was networks (links_in l) k old x grown h.placed at (omega (arith, long, some)) stays);
    }

-- another in place of the last: there is one
last_is : (l : LinkList) (old : LinkSetting) → last_link l ≡ Some old → (0 < l.count) × (slice_get l.list (l.count - 1) ≡ Some old)
last_is l old e = elim (cases_eq l.count 0) [
  | inl none ↦ absurd cc
  | inr some ↦ (omega (arith, some), grind arith)
]

replaced_by : (l : LinkList) (x : LinkSetting) → 0 < l.count → l.count ≤ 64 → with_last_link l x ≡ record { list = set l.list (l.count - 1) x; count = l.count }
replaced_by l x some few = rw (lt-ltb 0 l.count some, le-leb l.count 64 few) refl

pub holds_on : (was networks : ℕ) (l m : LinkList) → was ≤ networks → Follows networks l m → Holds was l → Holds networks m
holds_on was networks l m grown (same e) h = subst (Holds networks) (sym e) (record {
  room = h.room;
  within = h.within;
  apart = h.apart;
  placed = placed_still was networks (links_in l) grown h.placed;
})
holds_on was networks l m grown (more x free less last e) h = subst (Holds networks) (sym e) (holds_more was networks l x grown h free less last)
holds_on was networks l m grown (again old x there kept stays e) h =
    let at = last_is l old there in
    let replaced : with_last_link l x ≡ record { list = set l.list (l.count - 1) x; count = l.count } = replaced_by l x at.0 h.within in
    subst (Holds networks) (sym (e ∙ replaced)) (holds_again was networks l old x grown h at.0 at.1 kept stays)

-- ---- lines

pub record HoldsAll (c : Configuration) : Type 0 where
  pub room : length c.networks.list ≡ 32
  pub within : c.networks.count ≤ 32
  pub links : Holds c.networks.count c.links

pub holds_after : (capacity : Capacity) (n : ℕ) (c : Configuration) (lines : List (List ℕ)) → HoldsAll c → HoldsAll (after_lines capacity n c lines)
holds_after capacity n c [] h = h
holds_after capacity n c (text ∷ lines) h =
    let next = after capacity n text c in
    let g = grows capacity n text c in
    holds_after capacity (n + 1) next lines (record {
      room = g.room ∙ h.room;
      within = g.within h.within;
      links = holds_on c.networks.count next.networks.count c.links next.links g.no_fewer (follows capacity n text c) h.links;
    })

none_apart : AreApart []
none_apart i j a b less at_i at_j = absurd cc

none_placed : (networks : ℕ) → ArePlaced networks []
none_placed networks = record { inside = λ k x at. absurd cc; ordered = λ i j a b less at_i at_j. absurd cc }

pub holds_at_first : (c : Configuration) → IsBlank c → HoldsAll c
holds_at_first c blank =
    let few : c.networks.count ≤ 32 = omega (arith, blank.no_networks) in
    let few_links : c.links.count ≤ 64 = omega (arith, blank.no_links) in
    let none : links_in c.links ≡ [] = ap (λ (n : ℕ). take n c.links.list) blank.no_links in
    record {
      room = blank.networks_room;
      within = few;
      links = record {
        room = blank.links_room;
        within = few_links;
        apart = subst AreApart (sym none) none_apart;
        placed = subst (ArePlaced c.networks.count) (sym none) (none_placed c.networks.count);
      };
    }
