-- Where a station stands, and what its word changes for itself and for others.
use Rattle.std.proofs.Common.{◌≡◌, ◌∙◌, refl, sym, ap, arith, ℕ, ◌<◌, inl, inr, Bool, true, false, cond, List, [], ◌∷◌, length, filter, get_or, Option, None, Some, nat_lt}
use Rattle.std.specs.List.{find, list_any, position, position_or_len}
use Rattle.std.proofs.lemmas.Bool.{cases_Bool, ltb-false, not-true, and_right, and_from, and_parts}
use Rattle.std.proofs.lemmas.List.Folds.{find_at}
use Rattle.std.proofs.lemmas.List.Quantifiers.{position-Some}
use Rattle.std.proofs.lemmas.Option.{slice_get_past}
use Rattle.ipx_cable.specs.declared.station.Station.{Station}
use Rattle.ipx_cable.specs.Stations.{is_kind, same_node, nobody, is_known, is_free, is_of, heard, at, station_of, has_another, or_free, place, put, after_word}
use Rattle.ipx_cable.proofs.Filters.{head, find_first, neither_passes, replaced, added, somebody_passes, some_position}
use Rattle.ipx_cable.proofs.Nodes.{same_is, same_itself}

-- ---- the one that is found

found : (p : Station → Bool) (xs : List Station) → at xs (position p xs) ≡ find p xs
found p xs = by (nat_lt (position_or_len p xs) (length xs)) refl
  where
    by : (b : Bool) → nat_lt (position_or_len p xs) (length xs) ≡ b → at xs (cond b (Some (position_or_len p xs)) None) ≡ find p xs
    by true is = sym (find_at p xs)
    by false is = sym (find_at p xs ∙ slice_get_past xs (position_or_len p xs) (ltb-false _ _ is))

-- it is the first of those with that node
pub found_first : (node : List ℕ) (xs : List Station) → station_of node xs ≡ head (filter (is_of node) xs)
found_first node xs = found (is_of node) xs ∙ find_first (is_of node) xs

pub one_found : (node : List ℕ) (xs : List Station) (s : Station) → filter (is_of node) xs ≡ s ∷ [] → station_of node xs ≡ Some s
one_found node xs s is = found_first node xs ∙ ap head is

pub none_found : (node : List ℕ) (xs : List Station) → filter (is_of node) xs ≡ [] → station_of node xs ≡ None
none_found node xs is = found_first node xs ∙ ap head is

headless : {X : Type 0} (xs : List X) → head xs ≡ None → xs ≡ []
headless [] is = refl
headless (x ∷ xs) is = absurd cc

pub no_position : (p : Station → Bool) (xs : List Station) → position p xs ≡ None → filter p xs ≡ []
no_position p xs none = headless (filter p xs) (sym (find_first p xs) ∙ sym (found p xs) ∙ ap (at xs) none)

-- ---- the place of a station

pub data HasPlace (node : List ℕ) (xs : List Station) (index : ℕ) : Type 0 where
  own : is_of node (get_or xs index nobody) ≡ true → HasPlace node xs index
  free : is_known (get_or xs index nobody) ≡ false → filter (is_of node) xs ≡ [] → HasPlace node xs index

pub placed : (node : List ℕ) (xs : List Station) (index : ℕ) → place node xs ≡ Some index → (index < length xs) × HasPlace node xs index
placed node xs index is = by (position (is_of node) xs) refl is
  where
    by : (o : Option ℕ) → position (is_of node) xs ≡ o → or_free o xs ≡ Some index → (index < length xs) × HasPlace node xs index
    by None none free_is =
        let where_it_is = position-Some is_free xs index nobody free_is in
        (where_it_is.0, free (not-true (is_known (get_or xs index nobody)) where_it_is.1) (no_position (is_of node) xs none))
    by (Some k) there own_is =
        let where_it_is = position-Some (is_of node) xs index nobody (there ∙ own_is) in
        (where_it_is.0, own where_it_is.1)

no_own : (o : Option ℕ) (xs : List Station) → or_free o xs ≡ None → o ≡ None
no_own None xs is = refl
no_own (Some index) xs is = absurd cc

pub no_place : (node : List ℕ) (xs : List Station) → place node xs ≡ None → filter (is_of node) xs ≡ []
no_place node xs none = no_position (is_of node) xs (no_own (position (is_of node) xs) xs none)

pub heard_is_of : (node : List ℕ) (kind : ℕ) → is_kind kind ≡ true → is_of node (heard node kind) ≡ true
heard_is_of node kind valid = and_from (is_known (heard node kind)) (same_node node node) valid (same_itself node)

-- ---- what a word changes

-- nothing for another node
unknown : (node : List ℕ) (s : Station) → is_known s ≡ false → is_of node s ≡ false
unknown node s not_known = rw not_known refl

other_is : (node other : List ℕ) (s : Station) → same_node other node ≡ false → is_of other s ≡ true → is_of node s ≡ false
other_is node other s differ is =
    let same = same_is s.node other (and_parts (is_known s) (same_node s.node other) is).1 in
    and_right (is_known s) (same_node s.node node) (ap (λ (n : List ℕ). same_node n node) same ∙ differ)

put_other : (node other : List ℕ) (kind : ℕ) (xs : List Station) → same_node other node ≡ false → (o : Option ℕ) → place other xs ≡ o
    → filter (is_of node) (put o (heard other kind) xs) ≡ filter (is_of node) xs
put_other node other kind xs differ None is = refl
put_other node other kind xs differ (Some index) is =
    let (within, has) = placed other xs index is in
    let new : is_of node (heard other kind) ≡ false = and_right (is_known (heard other kind)) (same_node other node) differ in
    let old : is_of node (get_or xs index nobody) ≡ false = elim has [
      | own it ↦ other_is node other (get_or xs index nobody) differ it
      | free it none ↦ unknown node (get_or xs index nobody) it
    ] in
    neither_passes (is_of node) xs index nobody (heard other kind) within old new

pub other_word : (node other : List ℕ) (kind : ℕ) (xs : List Station) → same_node other node ≡ false
    → filter (is_of node) (after_word other kind xs) ≡ filter (is_of node) xs
other_word node other kind xs differ = elim (cases_Bool (has_another other kind xs)) [
  | inl e ↦ rw e refl
  | inr e ↦ rw e (put_other node other kind xs differ (place other xs) refl)
]

-- ---- what it changes for the station itself

pub own_word : (node : List ℕ) (kind : ℕ) (xs : List Station) (s : Station) → is_kind kind ≡ true → filter (is_of node) xs ≡ s ∷ []
    → (o : Option ℕ) → place node xs ≡ o → filter (is_of node) (put o (heard node kind) xs) ≡ heard node kind ∷ []
own_word node kind xs s valid one None none = absurd (omega (arith, ap length one, ap length (no_place node xs none)))
own_word node kind xs s valid one (Some index) is =
    let (within, has) = placed node xs index is in
    let new = heard_is_of node kind valid in
    elim has [
      | own it ↦ replaced (is_of node) xs index nobody (heard node kind) s within it new one
      | free it none ↦ absurd (omega (arith, ap length one, ap length none))
    ]

pub new_word : (node : List ℕ) (kind : ℕ) (xs : List Station) → is_kind kind ≡ true → filter (is_of node) xs ≡ []
    → (index : ℕ) → place node xs ≡ Some index → filter (is_of node) (put (Some index) (heard node kind) xs) ≡ heard node kind ∷ []
new_word node kind xs valid none index is =
    let (within, has) = placed node xs index is in
    let new = heard_is_of node kind valid in
    elim has [
      | own it ↦ absurd (somebody_passes (is_of node) xs index nobody within it none)
      | free it nobody_there ↦ added (is_of node) xs index nobody (heard node kind) within (unknown node (get_or xs index nobody) it) new none
    ]

-- ---- there is a place where one is free

pub has_room : (node : List ℕ) (xs : List Station) → list_any is_free xs ≡ true → (index : ℕ) × (place node xs ≡ Some index)
has_room node xs any = by (position (is_of node) xs)
  where
    by : (o : Option ℕ) → (index : ℕ) × (or_free o xs ≡ Some index)
    by (Some index) = (index, refl)
    by None = some_position is_free nobody xs any
