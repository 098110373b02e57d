-- A table's records, as it tells them, before and after a call: what they stand for, and what stays.
use Rattle.std.proofs.Common.{◌≡◌, refl, sym, ap, ◌∙◌, subst, ℕ, ◌<◌, ◌==◌, Bool, true, false, not, List, [], ◌∷◌, ◌++◌, map, filter, Ordering, is_eq, is_lt, arith}
use Rattle.std.specs.List.{AllByRecursion}
use Rattle.std.specs.Cmp.{IsTotalOrder}
use Rattle.ipx_table.specs.Reading.{Reading, Rules, rules_of}
use Rattle.ipx_table.specs.Facts.{Fact, Offered, Second, PortEnd}
use Rattle.ipx_table.specs.Alive.{alive, lifetime}
use Rattle.ipx_table.specs.Accepted.{marked}
use Rattle.ipx_table.specs.inside.AfterOffer.{after_offer}
use Rattle.ipx_table.specs.Slots.{seen}
use Rattle.ipx_table.specs.inside.Clock.{IsSorted}
use Rattle.ipx_table.specs.Stands.{Stands, Ascends, IsAscending, in_order, second_later, is_last, older, without_port, record_of, ended_with_port}
use Rattle.ipx_table.specs.Taken.{taken, taken_over}
use Rattle.ipx_table.specs.declared.held.Held.{Held}
use Rattle.ipx_table.proofs.History.{alive_after-offered, alive_after-second, alive_after-port}
use Rattle.ipx_table.proofs.Offers as offers
use Rattle.ipx_table.proofs.Order as order
use Rattle.ipx_table.proofs.Placing as placing
use Rattle.ipx_table.proofs.Ranks.{ascending-in_order}
use Rattle.ipx_table.proofs.Searching.{ascends-offers}
use Rattle.ipx_table.proofs.Seconds.{second-in_order}
use Rattle.ipx_table.proofs.Singles.{all-filter}
use Rattle.ipx_table.proofs.Standing as standing

module _ {O : Type 0} (rules : Rules O) (total : IsTotalOrder rules.by_key) where
  -- ---- what the records stand for

  pub stands_offered : (old new : List (Held O)) (facts : List (Fact O)) (offer : O) → IsAscending rules.by_key old
      → new ≡ in_order rules.by_key (after_offer rules old offer) → Stands rules old facts → Stands rules new (facts ++ Offered offer ∷ [])
  stands_offered old new facts offer up step stands =
      step ∙ offers.after_in_order rules total old (alive rules (marked rules facts)) offer (placing.in_order-ascending rules.by_key total old up ∙ stands)
      ∙ ap (in_order rules.by_key) (sym (alive_after-offered rules facts offer))

  pub taken_standing : (same_offer : O → O → Bool) (old : List (Held O)) (facts : List (Fact O)) (offer : O)
      → Stands rules old facts → taken_over rules same_offer old offer ≡ taken rules same_offer facts offer
  taken_standing same_offer old facts offer stands =
      ap (λ hs. taken_over rules same_offer hs offer) stands ∙ offers.taken-in_order rules total same_offer (alive rules (marked rules facts)) offer

  pub stands_second : (old new : List (Held O)) (facts : List (Fact O)) → new ≡ second_later old → Stands rules old facts → Stands rules new (facts ++ Second ∷ [])
  stands_second old new facts step stands = grind (arith, second-in_order, alive_after-second)

  pub stands_port : (old new : List (Held O)) (facts : List (Fact O)) (port : ℕ) → new ≡ without_port rules.port port old
      → Stands rules old facts → Stands rules new (facts ++ PortEnd port ∷ [])
  stands_port old new facts port step stands =
      let stays = λ (h : Held O). not (rules.port h.offer == port) in
      step ∙ ap (filter stays) stands ∙ order.filter-in_order rules.by_key total stays (alive rules (marked rules facts))
      ∙ ap (in_order rules.by_key) (sym (alive_after-port rules facts port))

  -- ---- what a table keeps

  pub sorted_offered : (ps qs : List (O × ℕ)) (clock : ℕ) (offer : O) → IsSorted rules.by_key ps clock
      → seen clock qs ≡ in_order rules.by_key (after_offer rules (seen clock ps) offer) → AllByRecursion (λ p. p.1 < lifetime) qs → IsSorted rules.by_key qs clock
  sorted_offered ps qs clock offer sorted step slots = record {
    ascending = subst (λ hs. IsAscending rules.by_key hs) (sym step)
        (ascending-in_order rules.by_key total (after_offer rules (seen clock ps) offer)
        (offers.kept-after rules total (seen clock ps) offer (placing.kept-sorted rules.by_key total ps clock sorted)).distinct);
    slots = slots;
    going = sorted.going;
  }

module _ {O : Type 0} (by_key : O → O → Ordering) (total : IsTotalOrder by_key) where
  pub ascending-filter : (p : Held O → Bool) (held : List (Held O)) → IsAscending by_key held → IsAscending by_key (filter p held)
  ascending-filter p [] up = tt
  ascending-filter p (h ∷ held) up = grind (arith, ascending-filter p held up.1, all-filter, is_lt)

  pub ascending-second : (held : List (Held O)) → IsAscending by_key held → IsAscending by_key (second_later held)
  ascending-second held up = aged (filter (λ h. not (is_last h)) held) (ascending-filter (λ h. not (is_last h)) held up)
    where
      each : (h : Held O) (xs : List (Held O)) → AllByRecursion (λ x. is_lt (by_key h.offer x.offer) ≡ true) xs → AllByRecursion (λ x. is_lt (by_key h.offer x.offer) ≡ true) (map older xs)
      each h [] all = tt
      each h (x ∷ xs) all = (all.0, each h xs all.1)

      aged : (xs : List (Held O)) → IsAscending by_key xs → IsAscending by_key (map older xs)
      aged [] up = tt
      aged (x ∷ xs) up = (each x xs up.0, aged xs up.1)

  pub sorted_later : (ps qs : List (O × ℕ)) (clock later : ℕ) (step : List (Held O)) → seen later qs ≡ step → IsAscending by_key step
      → AllByRecursion (λ p. p.1 < lifetime) qs → later < lifetime → IsSorted by_key qs later
  sorted_later ps qs clock later step e up slots going = record { ascending = subst (λ hs. IsAscending by_key hs) (sym e) up; slots = slots; going = going }

  -- the offers of some of the records ascend
  pub ascends-some : (p : Held O → Bool) (held : List (Held O)) → IsAscending by_key held → Ascends by_key (map (λ h. h.offer) (filter p held))
  ascends-some p held up = ascends-offers by_key total (filter p held) (ascending-filter p held up)

-- ---- the end of a port, seen

module _ {O : Type 0} (port_by : O → ℕ) (port clock : ℕ) where
  pub stay-seen : (ps : List (O × ℕ)) → seen clock (filter (λ p. not (port_by p.0 == port)) ps) ≡ without_port port_by port (seen clock ps)
  stay-seen [] = refl
  stay-seen (p ∷ ps) = grind (arith, stay-seen ps)

  pub gone-seen : (ps : List (O × ℕ)) → map (λ p. p.0) (filter (λ p. port_by p.0 == port) ps) ≡ ended_with_port port_by port (seen clock ps)
  gone-seen [] = refl
  gone-seen (p ∷ ps) = grind (arith, gone-seen ps)

module _ {O K : Type 0} (reading : Reading O K) (key_order : K → K → Ordering) (total : IsTotalOrder key_order) (capacity : ℕ) (shares : List ℕ) where
  -- the records of other keys stay
  pub others_stay : (old new : List (Held O)) (offer : O)
      → (let rules = rules_of reading key_order capacity shares in new ≡ in_order rules.by_key (after_offer rules old offer))
      → (key : K) → is_eq (key_order (reading.key offer) key) ≡ false → record_of reading.key key_order key new ≡ record_of reading.key key_order key old
  others_stay old new offer step key other =
      let rules = rules_of reading key_order capacity shares in
      ap (record_of reading.key key_order key) step
      ∙ standing.record-in_order reading key_order total capacity shares key (after_offer rules old offer)
      ∙ standing.others-stay reading key_order total capacity shares old offer key other
