-- How many records offers leave a table with: one more for each offer, at most; where all are down, the same ones or fewer.
use Rattle.std.proofs.Common.{◌≡◌, refl, sym, ap, subst, ◌⊎◌, ℕ, ◌+◌, ◌<◌, ◌≤◌, not, if◌then◌else◌, Bool, true, false, List, [], ◌∷◌, ◌++◌, map, filter, length, inl, arith, Ordering, append_assoc, append-nil, length-append}
use Rattle.std.specs.List.{AllByRecursion}
use Rattle.std.specs.Cmp.{IsTotalOrder}
use Rattle.ipx_table.specs.Accepted.{marked, is_accepted}
use Rattle.ipx_table.specs.inside.AfterOffer.{fresh, uncut, after_offer}
use Rattle.ipx_table.specs.Alive.{alive, cuts}
use Rattle.ipx_table.specs.Facts.{Fact, Offered, Second, PortEnd, End}
use Rattle.ipx_table.specs.Reading.{Reading, Rules, rules_of}
use Rattle.ipx_table.specs.Stands.{held}
use Rattle.ipx_table.specs.declared.held.Held.{Held}
use Rattle.ipx_table.proofs.History.{alive_after-offered}
use Rattle.ipx_table.proofs.Order.{length-in_order}
use Rattle.ipx_table.proofs.Standing.{rules_total}
use Rattle.ipx_router.proofs.bounds.ItemsOfEachList.{length-filter}
use Rattle.ipx_internet.proofs.records.KeptOrOffered.{OffersOf}

-- what passes a test is all, or fewer
all_or_fewer : {X : Type 0} (p : X → Bool) (xs : List X) → (filter p xs ≡ xs) ⊎ (length (filter p xs) < length xs)
all_or_fewer p [] = inl refl
all_or_fewer p (x ∷ xs) = grind (arith, all_or_fewer p xs)

module _ {O K : Type 0} (reading : Reading O K) (order : K → K → Ordering) (total : IsTotalOrder order) (capacity : ℕ) (shares : List ℕ) where
  abbrev rules : Rules O
  rules = rules_of reading order capacity shares

  abbrev alive_after : List (Fact O) → List (Held O)
  alive_after facts = alive rules (marked rules facts)

  -- the same records, or fewer
  abbrev pub SameOrFewer : List (Held O) → List (Held O) → Type 0
  SameOrFewer before after = (after ≡ before) ⊎ (length after < length before)

  as_many : (facts : List (Fact O)) → length (held rules facts) ≡ length (alive_after facts)
  as_many facts = length-in_order rules.by_key (rules_total reading order total capacity shares) (alive_after facts)

  -- ---- one offer

  one_more : (records : List (Held O)) (offer : O) → length (after_offer rules records offer) ≤ length records + 1
  one_more records offer = by (is_accepted rules records (Offered offer))
    where
      by : (accepted : Bool) → length (uncut rules offer accepted records ++ (if accepted then fresh offer ∷ [] else [])) ≤ length records + 1
      by true =
          let sum = length-append (uncut rules offer true records) (fresh offer ∷ []) in
          let few = length-filter (λ h. not (cuts rules offer true h.offer)) records in
          omega (arith, sum, few)
      by false =
          let sum = length-append (uncut rules offer false records) [] in
          let few = length-filter (λ h. not (cuts rules offer false h.offer)) records in
          omega (arith, sum, few)

  one_down : (records : List (Held O)) (offer : O) → reading.is_down offer ≡ true → SameOrFewer records (after_offer rules records offer)
  one_down records offer down = grind (arith, append-nil, all_or_fewer)

  -- ---- several, one after the other

  several_more : (facts : List (Fact O)) (some : List O) → length (alive_after (facts ++ map Offered some)) ≤ length (alive_after facts) + length some
  several_more facts [] = let same = ap (λ fs. length (alive_after fs)) (append-nil facts) in omega (arith, same)
  several_more facts (offer ∷ some) =
      let next = facts ++ Offered offer ∷ [] in
      let rest = several_more next some in
      let whole = ap (λ fs. length (alive_after fs)) (append_assoc facts (Offered offer ∷ []) (map Offered some)) in
      let one = one_more (alive_after facts) offer in
      let is_next = ap length (alive_after-offered rules facts offer) in
      omega (arith, rest, whole, one, is_next)

  pub few_more : (facts : List (Fact O)) (some : List O) → length (held rules (facts ++ map Offered some)) ≤ length (held rules facts) + length some
  few_more facts some = omega (arith, as_many, several_more)

  then_down : (before mid after : List (Held O)) → SameOrFewer before mid → SameOrFewer mid after → SameOrFewer before after
  then_down before mid after given given_2 = grind arith

  several_down : (new facts : List (Fact O)) → AllByRecursion (OffersOf (λ o. reading.is_down o ≡ true)) new
      → SameOrFewer (alive_after facts) (alive_after (facts ++ new))
  several_down [] facts all = inl (ap alive_after (append-nil facts))
  several_down (Offered offer ∷ new) facts all =
      let next = facts ++ Offered offer ∷ [] in
      let rest : SameOrFewer (alive_after next) (alive_after (facts ++ Offered offer ∷ new)) =
      subst (λ (fs : List (Fact O)). SameOrFewer (alive_after next) (alive_after fs)) (append_assoc facts (Offered offer ∷ []) new) (several_down new next all.1) in
      let one : SameOrFewer (alive_after facts) (alive_after next) =
      subst (λ (hs : List (Held O)). SameOrFewer (alive_after facts) hs) (sym (alive_after-offered rules facts offer)) (one_down (alive_after facts) offer all.0) in
      then_down (alive_after facts) (alive_after next) (alive_after (facts ++ Offered offer ∷ new)) one rest
  several_down (Second ∷ new) facts all = absurd all.0
  several_down (PortEnd port ∷ new) facts all = absurd all.0
  several_down (End ∷ new) facts all = absurd all.0

  pub same_or_fewer : (new facts : List (Fact O)) → AllByRecursion (OffersOf (λ o. reading.is_down o ≡ true)) new
      → SameOrFewer (held rules facts) (held rules (facts ++ new))
  same_or_fewer new facts all = grind (arith, several_down, as_many)
