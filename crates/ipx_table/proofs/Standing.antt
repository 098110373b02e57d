-- A table that stands for facts stands for one fact more after each of its calls.
use Rattle.std.proofs.Common.{◌≡◌, refl, sym, ap, ◌∙◌, ℕ, ◌==◌, Bool, true, false, not, if◌then◌else◌, List, [], ◌∷◌, ◌++◌, filter, find, Option, None, Some, inl, inr, true≢false, Ordering, is_eq, is_lt, arith}
use Rattle.std.specs.Option.{option_or}
use Rattle.std.specs.Cmp.{IsTotalOrder}
use Rattle.std.proofs.lemmas.Cmp.{tied_back, on_total}
use Rattle.std.proofs.lemmas.Bool.{cases_Bool}
use Rattle.std.proofs.lemmas.List.Folds.{find-append}
use Rattle.ipx_table.specs.Reading.{Reading, Rules, rules_of}
use Rattle.ipx_table.specs.Facts.{Fact, Offered, Second, PortEnd, End}
use Rattle.ipx_table.specs.Alive.{alive, cuts}
use Rattle.ipx_table.specs.Accepted.{marked, is_accepted}
use Rattle.ipx_table.specs.inside.AfterOffer.{fresh, uncut, after_offer}
use Rattle.ipx_table.specs.Taken.{taken, taken_over}
use Rattle.ipx_table.specs.Stands.{Stands, in_order, second_later, without_port, record_of}
use Rattle.ipx_table.specs.declared.held.Held.{Held}
use Rattle.ipx_table.proofs.History.{alive_after-offered, alive_after-second, alive_after-port, alive_after-end}
use Rattle.ipx_table.proofs.Order as order
use Rattle.ipx_table.proofs.Offers as offers
use Rattle.ipx_table.proofs.Seconds as seconds

module _ {O : Type 0} (rules : Rules O) (total : IsTotalOrder rules.by_key) where
  pub stands-offered : (held new : List (Held O)) (facts : List (Fact O)) (offer : O)
      → in_order rules.by_key new ≡ in_order rules.by_key (after_offer rules held offer)
      → Stands rules (in_order rules.by_key held) facts → Stands rules (in_order rules.by_key new) (facts ++ Offered offer ∷ [])
  stands-offered held new facts offer step stands =
      step ∙ offers.after_in_order rules total held (alive rules (marked rules facts)) offer stands
      ∙ ap (in_order rules.by_key) (sym (alive_after-offered rules facts offer))

  pub taken-now : (same_offer : O → O → Bool) (held : List (Held O)) (facts : List (Fact O)) (offer : O)
      → Stands rules (in_order rules.by_key held) facts → taken_over rules same_offer held offer ≡ taken rules same_offer facts offer
  taken-now same_offer held facts offer stands =
      sym (offers.taken-in_order rules total same_offer held offer)
      ∙ ap (λ hs. taken_over rules same_offer hs offer) stands
      ∙ offers.taken-in_order rules total same_offer (alive rules (marked rules facts)) offer

  pub stands-second : (held : List (Held O)) (facts : List (Fact O))
      → Stands rules (in_order rules.by_key held) facts → Stands rules (in_order rules.by_key (second_later held)) (facts ++ Second ∷ [])
  stands-second held facts stands =
      seconds.second-in_order rules.by_key total held ∙ ap second_later stands
      ∙ sym (seconds.second-in_order rules.by_key total (alive rules (marked rules facts)))
      ∙ ap (in_order rules.by_key) (sym (alive_after-second rules facts))

  pub stands-port : (held : List (Held O)) (facts : List (Fact O)) (port : ℕ)
      → Stands rules (in_order rules.by_key held) facts → Stands rules (in_order rules.by_key (without_port rules.port port held)) (facts ++ PortEnd port ∷ [])
  stands-port held facts port stands =
      let stays = λ (h : Held O). not (rules.port h.offer == port) in
      sym (order.filter-in_order rules.by_key total stays held) ∙ ap (filter stays) stands
      ∙ order.filter-in_order rules.by_key total stays (alive rules (marked rules facts))
      ∙ ap (in_order rules.by_key) (sym (alive_after-port rules facts port))

  pub stands-end : (facts : List (Fact O)) → Stands rules [] (facts ++ End ∷ [])
  stands-end facts = ap (in_order rules.by_key) (sym (alive_after-end rules facts))

-- ---- look-ups by key

module _ {O K : Type 0} (reading : Reading O K) (key_order : K → K → Ordering) (total : IsTotalOrder key_order) (capacity : ℕ) (shares : List ℕ) where
  abbrev rules : Rules O
  rules = rules_of reading key_order capacity shares

  pub rules_total : IsTotalOrder rules.by_key
  rules_total = on_total reading.key total

  abbrev has : K → Held O → Bool
  has key h = is_eq (key_order (reading.key h.offer) key)

  ties : (key : K) → order.TiesKeys rules.by_key rules_total (has key)
  ties key x y px py =
      ap is_lt (total.congr (reading.key x.offer) key (reading.key y.offer) (order.is_equal (key_order (reading.key x.offer) key) px)
      ∙ tied_back total (reading.key y.offer) key (order.is_equal (key_order (reading.key y.offer) key) py))

  pub record-in_order : (key : K) (held : List (Held O)) → record_of reading.key key_order key (in_order rules.by_key held) ≡ find (has key) held
  record-in_order key held = order.find-in_order rules.by_key rules_total (has key) (ties key) held

  find-filter : (p q : Held O → Bool) (xs : List (Held O)) → ((x : Held O) → q x ≡ true → p x ≡ true) → find q (filter p xs) ≡ find q xs
  find-filter p q [] keeps = refl
  find-filter p q (x ∷ xs) keeps = grind (arith, find-filter p q xs keeps)

  pub others-stay : (held : List (Held O)) (offer : O) (key : K) → is_eq (key_order (reading.key offer) key) ≡ false
      → find (has key) (after_offer rules held offer) ≡ find (has key) held
  others-stay held offer key other =
      let accepted = is_accepted rules held (Offered offer) in
      find-append (has key) (uncut rules offer accepted held) (if accepted then fresh offer ∷ [] else [])
      ∙ ap (λ (o : Option (Held O)). option_or o (find (has key) (if accepted then fresh offer ∷ [] else [])))
      (find-filter (λ h. not (cuts rules offer accepted h.offer)) (has key) held (λ x e. not_cut accepted x e))
      ∙ last accepted
    where
      not_cut : (a : Bool) (x : Held O) → has key x ≡ true → not (cuts rules offer a x.offer) ≡ true
      not_cut a x e =
          elim (cases_Bool (is_eq (key_order (reading.key x.offer) (reading.key offer)))) [
            | inl same ↦
                let through = total.congr (reading.key x.offer) (reading.key offer) key (order.is_equal (key_order (reading.key x.offer) (reading.key offer)) same) in
                absurd (true≢false (sym e ∙ ap is_eq through ∙ other))
            | inr apart ↦ rw apart refl
          ]

      or_none : (o : Option (Held O)) → option_or o None ≡ o
      or_none None = refl
      or_none (Some h) = refl

      last : (a : Bool) → option_or (find (has key) held) (find (has key) (if a then fresh offer ∷ [] else [])) ≡ find (has key) held
      last true = rw other (or_none (find (has key) held))
      last false = or_none (find (has key) held)

  pub record-others : (held new : List (Held O)) (offer : O) → in_order rules.by_key new ≡ in_order rules.by_key (after_offer rules held offer)
      → (key : K) → is_eq (key_order (reading.key offer) key) ≡ false
      → record_of reading.key key_order key (in_order rules.by_key new) ≡ record_of reading.key key_order key (in_order rules.by_key held)
  record-others held new offer step key other = grind (arith, record-in_order, others-stay)
