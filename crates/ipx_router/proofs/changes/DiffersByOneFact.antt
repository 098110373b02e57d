-- Which offers are held after a fact that weren't before, or the other way round: those of the keys that the fact tells of.
use Rattle.std.proofs.Common.{◌≡◌, refl, sym, ap, ◌∙◌, ℕ, ◌+◌, ◌≤◌, ◌==◌, Bool, true, false, List, [], ◌∷◌, ◌++◌, map, find, length, inl, inr, arith, Ordering, is_eq, append_assoc, append-nil}
use Rattle.std.specs.List.{list_any}
use Rattle.std.specs.Option.{option_map}
use Rattle.std.specs.Cmp.{IsTotalOrder}
use Rattle.std.proofs.lemmas.Bool.{cases_Bool}
use Rattle.std.proofs.lemmas.List.{length-map}
use Rattle.ipx_table.specs.Facts.{Fact, Offered}
use Rattle.ipx_table.specs.Reading.{Reading, Rules, rules_of}
use Rattle.ipx_table.specs.Stands.{held, record_of, is_last, second_later, ended, without_port, ended_with_port}
use Rattle.ipx_table.specs.declared.held.Held.{Held}
use Rattle.ipx_router.specs.Changes.{changes}
use Rattle.ipx_router.specs.Facts.{offers}
use Rattle.ipx_router.proofs.changes.KeysThatDiffer.{neither, few_changes}
use Rattle.ipx_router.proofs.bounds.ItemsOfEachList.{length-filter}

-- the offer that is found among offers is that of the record that is found
pub found : {O : Type 0} (p : O → Bool) (records : List (Held O)) → find p (offers records) ≡ option_map (λ h. h.offer) (find (λ h. p h.offer) records)
found p [] = refl
found p (h ∷ records) = elim (cases_Bool (p h.offer)) [ inl e ↦ rw e refl | inr e ↦ rw e (found p records) ]

-- ---- a second

-- what ends and what doesn't are all records
pub length-ended : {O : Type 0} (records : List (Held O)) → length (second_later records) + length (ended records) ≡ length records
length-ended [] = refl
length-ended (h ∷ records) = grind (arith, length-ended records)

-- what isn't among the ended offers is found a second later as before
found-later : {O : Type 0} (p : O → Bool) (records : List (Held O)) → list_any p (ended records) ≡ false
    → find p (offers (second_later records)) ≡ find p (offers records)
found-later p [] none = refl
found-later p (h ∷ records) none = elim (cases_Bool (is_last h)) [
  | inl e ↦
      let parts = neither (p h.offer) (list_any p (ended records)) (rw e at none) in
      let apart = parts.0 in
      rw (e, apart) (found-later p records parts.1)
  | inr e ↦
      let rest : list_any p (ended records) ≡ false = rw e at none in
      elim (cases_Bool (p h.offer)) [
        | inl one ↦ rw (e, one) refl
        | inr other ↦ rw (e, other) (found-later p records rest)
      ]
]

-- what isn't among the offers that end with their port is found after it as before
found-without : {O : Type 0} (p : O → Bool) (port_by : O → ℕ) (port : ℕ) (records : List (Held O)) → list_any p (ended_with_port port_by port records) ≡ false
    → find p (offers (without_port port_by port records)) ≡ find p (offers records)
found-without p port_by port [] none = refl
found-without p port_by port (h ∷ records) none = elim (cases_Bool (port_by h.offer == port)) [
  | inl e ↦
      let parts = neither (p h.offer) (list_any p (ended_with_port port_by port records)) (rw e at none) in
      let apart = parts.0 in
      rw (e, apart) (found-without p port_by port records parts.1)
  | inr e ↦
      let rest : list_any p (ended_with_port port_by port records) ≡ false = rw e at none in
      elim (cases_Bool (p h.offer)) [
        | inl one ↦ rw (e, one) refl
        | inr other ↦ rw (e, other) (found-without p port_by port records rest)
      ]
]

-- no more end with their port than there are
pub few_with_port : {O : Type 0} (port_by : O → ℕ) (port : ℕ) (records : List (Held O)) → length (ended_with_port port_by port records) ≤ length records
few_with_port port_by port records = grind (arith, length-map, length-filter)

module _ {O K : Type 0} (reading : Reading O K) (order : K → K → Ordering) (same : O → O → Bool)
    (total : IsTotalOrder order) (itself : (o : O) → same o o ≡ true) where
  -- a second changes no more offers than end with it
  pub few_end : (records : List (Held O))
      → length (changes reading.key order same (offers records) (offers (second_later records))) ≤ length (ended records)
  few_end records = grind (arith, few_changes, found-later, is_eq)

  -- ---- the end of a port

  -- nor does a port that goes down change more offers than came by it
  pub few_end_with : (port_by : O → ℕ) (port : ℕ) (records : List (Held O))
      → length (changes reading.key order same (offers records) (offers (without_port port_by port records))) ≤ length (ended_with_port port_by port records)
  few_end_with port_by port records = grind (arith, few_changes, found-without, is_eq)

  -- ---- offers

  -- in a table an offer changes the record of its own key alone
  abbrev pub OthersStay : ℕ → List ℕ → Type 0
  OthersStay capacity shares = (facts : List (Fact O)) (offer : O) (key : K) → is_eq (order (reading.key offer) key) ≡ false
      → record_of reading.key order key (held (rules_of reading order capacity shares) (facts ++ Offered offer ∷ []))
      ≡ record_of reading.key order key (held (rules_of reading order capacity shares) facts)

  module _ (capacity : ℕ) (shares : List ℕ) (others : OthersStay capacity shares) where
    abbrev rules : Rules O
    rules = rules_of reading order capacity shares

    others-all : (facts : List (Fact O)) (some : List O) (key : K) → list_any (λ o. is_eq (order (reading.key o) key)) some ≡ false
        → record_of reading.key order key (held rules (facts ++ map Offered some)) ≡ record_of reading.key order key (held rules facts)
    others-all facts [] key none = ap (λ fs. record_of reading.key order key (held rules fs)) (append-nil facts)
    others-all facts (o ∷ some) key none =
        let parts = neither (is_eq (order (reading.key o) key)) (list_any (λ o. is_eq (order (reading.key o) key)) some) none in
        ap (λ fs. record_of reading.key order key (held rules fs)) (sym (append_assoc facts (Offered o ∷ []) (map Offered some)))
        ∙ others-all (facts ++ Offered o ∷ []) some key parts.1
        ∙ others facts o key parts.0

    -- offers that come change no more than there are of them
    pub few_come : (facts : List (Fact O)) (some : List O)
        → length (changes reading.key order same (offers (held rules facts)) (offers (held rules (facts ++ map Offered some)))) ≤ length some
    few_come facts some =
        few_changes reading.key order same total itself (offers (held rules facts)) (offers (held rules (facts ++ map Offered some))) some
        (λ key none.
        found (λ o. is_eq (order (reading.key o) key)) (held rules (facts ++ map Offered some))
        ∙ ap (option_map (λ h. h.offer)) (others-all facts some key none)
        ∙ sym (found (λ o. is_eq (order (reading.key o) key)) (held rules facts)))
