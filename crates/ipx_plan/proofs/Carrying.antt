-- What becomes of cables.
use Rattle.std.proofs.Common.{◌≡◌, ◌⊎◌, ◌∙◌, refl, sym, ap, ap₂, subst, ℕ, zero, suc, ◌≤◌, Bool, true, false, ◌==◌, ◌||◌, not, if◌then◌else◌, eq-eqb, inl, inr, List, [], ◌∷◌, get_or, slice_get, Option, Some, None}
use Rattle.std.specs.Bool.{beq}
use Rattle.std.specs.List.{list_any}
use Rattle.std.proofs.lemmas.Bool.{cases_Bool, false≢true, and_parts, or_left, or_right, or_cases}
use Rattle.std.proofs.lemmas.List.Quantifiers.{position-Some}
use Rattle.std.proofs.lemmas.Option.{same_Some, none-some, slice_get-get_or, slice_get_within, get_or_from_slice_get}
use Rattle.ipx_plan.specs.declared.carrier.Carrier.{Carrier}
use Rattle.ipx_plan.specs.declared.link.Link.{Link}
use Rattle.ipx_plan.specs.declared.origin.Cable.{Cable}
use Rattle.ipx_plan.specs.declared.origin.Cable.TheVariants.{Kept, Opened}
use Rattle.ipx_plan.specs.Carriers.{same_carrier, is_card, is_shared}
use Rattle.ipx_plan.specs.Likeness.{same_link}
use Rattle.ipx_plan.specs.Pairing.{is_number}
use Rattle.ipx_plan.specs.Cables.{is_as_before, first_on, shared_cable, own_cable, cable, is_first_on_cable}
use Rattle.ipx_plan.specs.Planned.{link_of}
use Rattle.ipx_plan.proofs.Alike.{carrier_is, carrier_same}
use Rattle.ipx_plan.proofs.Blank.{blank}
use Rattle.ipx_plan.proofs.Places.{position_there}

-- ---- some element passes a test

pub any_there : {X : Type 0} (p : X → Bool) (xs : List X) (k : ℕ) (x : X) → slice_get xs k ≡ Some x → p x ≡ true → list_any p xs ≡ true
any_there p [] k x there passes = absurd (none-some x there)
any_there p (y ∷ ys) zero x there passes = or_left (p y) (list_any p ys) (ap p (same_Some y x there) ∙ passes)
any_there p (y ∷ ys) (suc k) x there passes = or_right (p y) (list_any p ys) (any_there p ys k x there passes)

pub which_any : {X : Type 0} (p : X → Bool) (xs : List X) → list_any p xs ≡ true → (k : ℕ) × (x : X) × (slice_get xs k ≡ Some x) × (p x ≡ true)
which_any p [] none = absurd (false≢true none)
which_any p (y ∷ ys) some = elim (or_cases (p y) (list_any p ys) some) [
  | inl here ↦ (0, y, refl, here)
  | inr later ↦
      let there = which_any p ys later in
      (suc there.0, there.1, there.2, there.3)
]

-- ---- the first link on a carrier

pub record IsFirstOn (carrier : Carrier) (links : List Link) (i : ℕ) : Type 0 where
  pub link : Link
  pub there : slice_get links i ≡ Some link
  pub on : link.carrier ≡ carrier

pub first_is : (carrier : Carrier) (links : List Link) (i : ℕ) → first_on carrier links ≡ Some i → IsFirstOn carrier links i
first_is carrier links i is =
    let found = position-Some (λ (l : Link). same_carrier l.carrier carrier) links i blank is in
    record {
      link = get_or links i blank;
      there = slice_get-get_or links i blank found.0;
      on = carrier_is (get_or links i blank).carrier carrier found.1;
    }

module _ (carrier : Carrier) (links : List Link) (k : ℕ) (link : Link) (there : slice_get links k ≡ Some link) (on : link.carrier ≡ carrier) where
  passes : same_carrier (get_or links k blank).carrier carrier ≡ true
  passes = ap (λ (l : Link). same_carrier l.carrier carrier) (get_or_from_slice_get links k link blank there) ∙ carrier_same link.carrier carrier on

  pub first_there : (i : ℕ) × (first_on carrier links ≡ Some i) × (i ≤ k)
  first_there = position_there (λ (l : Link). same_carrier l.carrier carrier) links k blank (slice_get_within links k link there) passes

  pub not_none : first_on carrier links ≡ None → ⊥
  not_none none = none-some first_there.0 (sym none ∙ first_there.1)

-- ---- the cable of one link

-- why it has this one
pub data Carries (old new : List Link) (was : Option ℕ) (k : ℕ) (link : Link) (c : Cable) : Type 0 where
  SharedKept : is_shared link.carrier ≡ true → (j : ℕ) → first_on link.carrier old ≡ Some j → c ≡ Kept j → Carries old new was k link c
  SharedOpened : is_shared link.carrier ≡ true → first_on link.carrier old ≡ None → (i : ℕ) → first_on link.carrier new ≡ Some i → i ≤ k → c ≡ Opened i
      → Carries old new was k link c
  OwnKept : is_shared link.carrier ≡ false → (j : ℕ) → was ≡ Some j → is_as_before (link_of old was) link ≡ true → c ≡ Kept j → Carries old new was k link c
  OwnOpened : is_shared link.carrier ≡ false → c ≡ Opened k → Carries old new was k link c

cases_option : (o : Option ℕ) → (o ≡ None) ⊎ ((k : ℕ) × (o ≡ Some k))
cases_option None = inl refl
cases_option (Some k) = inr (k, refl)

module _ (old new : List Link) (was : Option ℕ) (k : ℕ) (link : Link) where
  abbrev as_before : Bool
  as_before = is_as_before (link_of old was) link

  carries_shared : is_shared link.carrier ≡ true → slice_get new k ≡ Some link → Carries old new was k link (shared_cable (first_on link.carrier old) (first_on link.carrier new) k)
  carries_shared shared there = elim (cases_option (first_on link.carrier old)) [
    | inl none ↦
        let first = first_there link.carrier new k link there refl in
        SharedOpened shared none first.0 first.1 first.2 (ap₂ (λ (a b : Option ℕ). shared_cable a b k) none first.1)
    | inr some ↦ SharedKept shared some.0 some.1 (ap (λ (a : Option ℕ). shared_cable a (first_on link.carrier new) k) some.1)
  ]

  carries_own : is_shared link.carrier ≡ false → Carries old new was k link (own_cable was as_before k)
  carries_own own = elim (cases_option was) [
    | inl none ↦ OwnOpened own (ap (λ (w : Option ℕ). own_cable w as_before k) none)
    | inr some ↦ elim (cases_Bool as_before) [
      | inl same ↦ OwnKept own some.0 some.1 same (ap₂ (λ (w : Option ℕ) (b : Bool). own_cable w b k) some.1 same)
      | inr other ↦ OwnOpened own (ap₂ (λ (w : Option ℕ) (b : Bool). own_cable w b k) some.1 other)
    ]
  ]

  pub carries : slice_get new k ≡ Some link → Carries old new was k link (cable old new was as_before k link)
  carries there = elim (cases_Bool (is_shared link.carrier)) [
    | inl shared ↦
        let is : cable old new was as_before k link ≡ shared_cable (first_on link.carrier old) (first_on link.carrier new) k =
        ap (λ (b : Bool). if b then shared_cable (first_on link.carrier old) (first_on link.carrier new) k else own_cable was as_before k) shared in
        subst (Carries old new was k link) (sym is) (carries_shared shared there)
    | inr own ↦
        let is : cable old new was as_before k link ≡ own_cable was as_before k =
        ap (λ (b : Bool). if b then shared_cable (first_on link.carrier old) (first_on link.carrier new) k else own_cable was as_before k) own in
        subst (Carries old new was k link) (sym is) (carries_own own)
  ]

-- what carries a link as before carried what it continues
pub as_before_carrier : (b : Option Link) (link : Link) → is_as_before b link ≡ true → (x : Link) × (b ≡ Some x) × (x.carrier ≡ link.carrier)
as_before_carrier None link is = absurd (false≢true is)
as_before_carrier (Some x) link is =
    let parts = and_parts (same_link x link) (not (is_card link.carrier) || beq x.is_of_several link.is_of_several) is in
    let same = and_parts (same_carrier x.carrier link.carrier) (x.frames == link.frames) parts.0 in
    (x, refl, carrier_is x.carrier link.carrier same.0)

-- a cable that is kept, is the first link's on the carrier
pub record KeptAt (old : List Link) (j : ℕ) (link : Link) : Type 0 where
  pub before : Link
  pub there : slice_get old j ≡ Some before
  pub first : is_first_on_cable old j before ≡ true
  pub on : before.carrier ≡ link.carrier

module _ (old new : List Link) (was : Option ℕ) (k : ℕ) (link : Link) where
  kept_shared : (j : ℕ) → first_on link.carrier old ≡ Some j → KeptAt old j link
  kept_shared j is =
      let first = first_is link.carrier old j is in
      let number : is_number j (first_on first.link.carrier old) ≡ true =
      ap (λ (c : Carrier). is_number j (first_on c old)) first.on ∙ ap (is_number j) is ∙ eq-eqb j j refl in
      record {
        before = first.link;
        there = first.there;
        first = or_right (not (is_shared first.link.carrier)) (is_number j (first_on first.link.carrier old)) number;
        on = first.on;
      }

  kept_own : (j : ℕ) → is_shared link.carrier ≡ false → was ≡ Some j → is_as_before (link_of old was) link ≡ true → KeptAt old j link
  kept_own j own is as_it_was =
      let found = as_before_carrier (link_of old was) link as_it_was in
      let apart : not (is_shared found.0.carrier) ≡ true = ap (λ (c : Carrier). not (is_shared c)) found.2 ∙ ap not own in
      record {
        before = found.0;
        there = ap (link_of old) (sym is) ∙ found.1;
        first = or_left (not (is_shared found.0.carrier)) (is_number j (first_on found.0.carrier old)) apart;
        on = found.2;
      }

  same_kept : (i j : ℕ) (c : Cable) → c ≡ Kept i → c ≡ Kept j → i ≡ j
  same_kept i j c one other = cc

  same_opened : (i j : ℕ) (c : Cable) → c ≡ Opened i → c ≡ Opened j → i ≡ j
  same_opened i j c one other = cc

  kept_or_opened : (i j : ℕ) (c : Cable) → c ≡ Kept i → c ≡ Opened j → ⊥
  kept_or_opened i j c one other = cc

  pub kept_at : (j : ℕ) (c : Cable) → Carries old new was k link c → c ≡ Kept j → KeptAt old j link
  kept_at j c (SharedKept shared i first is) kept = subst (λ (n : ℕ). KeptAt old n link) (same_kept i j c is kept) (kept_shared i first)
  kept_at j c (SharedOpened shared none i first less is) kept = absurd (kept_or_opened j i c kept is)
  kept_at j c (OwnKept own i w as_it_was is) kept = subst (λ (n : ℕ). KeptAt old n link) (same_kept i j c is kept) (kept_own i own w as_it_was)
  kept_at j c (OwnOpened own is) kept = absurd (kept_or_opened j k c kept is)
