-- How old the records of a table are: each is such as it should be, or as old as the seconds since then and its hops allow. Where what is sent
-- takes a number of seconds, the delay, each hop allows as many more; and the slack is allowed to all. In ticks both are 0.
use Rattle.std.proofs.Common.{◌≡◌, refl, sym, ◌∙◌, subst, ◌⊎◌, ℕ, suc, ◌+◌, ◌-◌, ◌*◌, ◌<◌, ◌≤◌, ◌==◌, nat_le, Bool, true, false, not, List, [], ◌∷◌, ◌++◌, filter, if◌then◌else◌, inl, inr, arith, append_assoc, append-nil, Ordering, is_lt}
use Rattle.std.specs.List.{AllByRecursion}
use Rattle.std.specs.Cmp.{IsTotalOrder}
use Rattle.std.proofs.Math.Nat.{mul-le-mul_left}
use Rattle.std.proofs.lemmas.Bool.{cases_Bool, leb-false}
use Rattle.ipx_table.specs.Accepted.{marked, is_accepted}
use Rattle.ipx_table.specs.inside.AfterOffer.{fresh, uncut, after_offer}
use Rattle.ipx_table.specs.Alive.{alive, cuts, lifetime}
use Rattle.ipx_table.specs.Facts.{Fact, Offered, Second, PortEnd, End}
use Rattle.ipx_table.specs.Reading.{Reading, Rules, rules_of}
use Rattle.ipx_table.specs.Stands.{put, in_order, held, older, is_last, second_later}
use Rattle.ipx_table.specs.declared.held.Held.{Held}
use Rattle.ipx_table.proofs.History.{alive_after-offered, alive_after-second, alive_after-port, alive_after-end}
use Rattle.ipx_table.proofs.Living.{always_after, kept}
use Rattle.ipx_table.proofs.Standing.{rules_total}
use Rattle.ipx_router.specs.Facts.{facts_of, offers}
use Rattle.ipx_router.specs.History.{Event, Start, Stop, Second as PassedSecond, Packet, PortDown, PortUp}
use Rattle.ipx_router.specs.Numbers.{unreachable}
use Rattle.ipx_router.specs.Port.{is_up}
use Rattle.ipx_router.proofs.lists.EachElement.{all_both}
use Rattle.ipx_router.proofs.tables.HeldWasOffered.{all_in_order, all_offers}
use Rattle.ipx_internet.proofs.lists.EachElement.{all_of, all_then, all-append, all-map, all-filter}
use Rattle.ipx_internet.proofs.records.KeptOrOffered.{OffersOf}
use Rattle.ipx_laws.specs.Wires.{most_beats_gone}

-- where no offer of the records in order is such, there is none
none_there : {O : Type 0} (by_key : O → O → Ordering) (xs : List (Held O)) → AllByRecursion (λ o. ⊥) (offers (in_order by_key xs)) → xs ≡ []
none_there by_key [] none = refl
none_there by_key (h ∷ xs) none = absurd (some (in_order by_key xs) none)
  where
    some : (rest : List _) → AllByRecursion (λ o. ⊥) (offers (put by_key h rest)) → ⊥
    some [] none = none.0
    some (x ∷ rest) none = elim (cases_Bool (is_lt (by_key x.offer h.offer))) [
      | inl e ↦ let all : AllByRecursion (λ o. ⊥) (offers (x ∷ put by_key h rest)) = rw e at none in all.0
      | inr e ↦ let all : AllByRecursion (λ o. ⊥) (offers (h ∷ x ∷ rest)) = rw e at none in all.0
    ]

-- so many seconds, where an offer of that many hops may be so old; and fewer, where it may become so old on its way
abbrev pub IsWithin : (delay slack hops had : ℕ) → Type 0
IsWithin delay slack hops had = had ≤ slack + (delay + lifetime) * hops

abbrev pub IsBelow : (delay slack hops had : ℕ) → Type 0
IsBelow delay slack hops had = delay + had < slack + (delay + lifetime) * hops

-- so many seconds with an event more
abbrev pub passed : Event → ℕ → ℕ
passed PassedSecond had = suc had
passed event had = had

module _ {O K : Type 0} (reading : Reading O K) (order : K → K → Ordering) (total : IsTotalOrder order) (capacity : ℕ) (shares : List ℕ)
    (hops : O → ℕ) (down : (o : O) → reading.is_down o ≡ nat_le unreachable (hops o)) where
  abbrev rules : Rules O
  rules = rules_of reading order capacity shares

  abbrev alive_after : List (Fact O) → List (Held O)
  alive_after facts = alive rules (marked rules facts)

  -- ---- what is alive

  -- an offer that is accepted isn't down
  accepted_up : (records : List (Held O)) (offer : O) → is_accepted rules records (Offered offer) ≡ true → reading.is_down offer ≡ false
  accepted_up records offer e = grind arith

  -- what holds of the records, and of an offer that comes and isn't down, holds of them after it
  all_after_offer : (P : Held O → Type 0) (records : List (Held O)) (offer : O) → (reading.is_down offer ≡ false → P (fresh offer)) → AllByRecursion P records
      → AllByRecursion P (after_offer rules records offer)
  all_after_offer P records offer new all =
      let accepted = is_accepted rules records (Offered offer) in
      all-append P (uncut rules offer accepted records) (if accepted then fresh offer ∷ [] else [])
      (all-filter P (λ h. not (cuts rules offer accepted h.offer)) records all) (by accepted (λ e. new (accepted_up records offer e)))
    where
      by : (a : Bool) → (a ≡ true → P (fresh offer)) → AllByRecursion P (if a then fresh offer ∷ [] else [])
      by true step = (step refl, tt)
      by false step = tt

  all_older : (P Q : Held O → Type 0) → ((h : Held O) → P h → Q (older h)) → (records : List (Held O)) → AllByRecursion P records
      → AllByRecursion Q (second_later records)
  all_older P Q step records all =
      all-map P Q older step (filter (λ h. not (is_last h)) records) (all-filter P (λ h. not (is_last h)) records all)

  -- none that is alive is down
  near : (facts : List (Fact O)) → AllByRecursion (λ h. reading.is_down h.offer ≡ false) (alive_after facts)
  near facts =
      always_after rules (AllByRecursion (λ h. reading.is_down h.offer ≡ false)) tt
      (λ records offer all. all_after_offer (λ h. reading.is_down h.offer ≡ false) records offer (λ up. up) all)
      (λ records all. all_older (λ h. reading.is_down h.offer ≡ false) (λ h. reading.is_down h.offer ≡ false) (λ h up. up) records all)
      (λ records port all. all-filter (λ h. reading.is_down h.offer ≡ false) (λ h. not (rules.port h.offer == port)) records all)
      [] tt facts

  abbrev pub IsNear : Held O → Type 0
  IsNear h = (hops h.offer < unreachable) × (h.age < lifetime)

  pub near_young : (facts : List (Fact O)) → AllByRecursion IsNear (alive_after facts)
  near_young facts =
      all_then (λ h. (reading.is_down h.offer ≡ false) × (h.age < lifetime)) IsNear
      (λ h both. (leb-false unreachable (hops h.offer) (sym (down h.offer) ∙ both.0), both.1)) (alive_after facts)
      (all_both (λ h. reading.is_down h.offer ≡ false) (λ h. h.age < lifetime) (alive_after facts) (near facts)
      (kept rules (rules_total reading order total capacity shares) facts).young)

  -- ---- ages

  module _ (delay slack : ℕ) (Fine : O → Type 0) where
    -- a record is fine, or so old after so many seconds
    abbrev pub IsOld : ℕ → Held O → Type 0
    IsOld had h = Fine h.offer ⊎ (had ≤ slack + (delay + lifetime) * hops h.offer + h.age)

    -- an offer that comes in such a second is fine or tells of something as old, if it is alive
    abbrev pub IsOldOffer : ℕ → O → Type 0
    IsOldOffer had o = hops o < unreachable → Fine o ⊎ IsWithin delay slack (hops o) had

    abbrev pub Aged : ℕ → List (Fact O) → Type 0
    Aged had facts = AllByRecursion (IsOld had) (alive_after facts)

    pub at_first : (facts : List (Fact O)) → Aged 0 facts
    at_first facts = all_of (IsOld 0) (λ h. inr (omega arith)) (alive_after facts)

    pub where_none : (had : ℕ) (facts : List (Fact O)) → AllByRecursion (λ o. ⊥) (offers (held rules facts)) → Aged had facts
    where_none had facts none = grind (arith, none_there)

    pub after_second : (had : ℕ) (facts : List (Fact O)) → Aged had facts → Aged (suc had) (facts ++ Second ∷ [])
    after_second had facts aged =
        subst (λ (hs : List (Held O)). AllByRecursion (IsOld (suc had)) hs) (sym (alive_after-second rules facts))
        (all_older (IsOld had) (IsOld (suc had)) one (alive_after facts) aged)
      where
        one : (h : Held O) → IsOld had h → IsOld (suc had) (older h)
        one h (inl fine) = inl fine
        one h (inr old) = inr (omega (arith, old))

    pub after_offers : (had : ℕ) (new facts : List (Fact O)) → AllByRecursion (OffersOf (IsOldOffer had)) new → Aged had facts → Aged had (facts ++ new)
    after_offers had [] facts all aged = subst (λ (fs : List (Fact O)). Aged had fs) (sym (append-nil facts)) aged
    after_offers had (Offered offer ∷ new) facts all aged =
        subst (λ (fs : List (Fact O)). Aged had fs) (append_assoc facts (Offered offer ∷ []) new)
        (after_offers had new (facts ++ Offered offer ∷ []) all.1
        (subst (λ (hs : List (Held O)). AllByRecursion (IsOld had) hs) (sym (alive_after-offered rules facts offer))
        (all_after_offer (IsOld had) (alive_after facts) offer (λ up. one (all.0 (leb-false unreachable (hops offer) (sym (down offer) ∙ up)))) aged)))
      where
        one : Fine offer ⊎ IsWithin delay slack (hops offer) had → IsOld had (fresh offer)
        one (inl fine) = inl fine
        one (inr old) = inr (omega (arith, old))
    after_offers had (Second ∷ new) facts all aged = absurd all.0
    after_offers had (PortEnd port ∷ new) facts all aged = absurd all.0
    after_offers had (End ∷ new) facts all aged = absurd all.0

    after_port : (had : ℕ) (facts : List (Fact O)) (port : ℕ) → Aged had facts → Aged had (facts ++ PortEnd port ∷ [])
    after_port had facts port aged = grind (arith, alive_after-port, all-filter)

    after_end : (had : ℕ) (facts : List (Fact O)) → Aged had (facts ++ End ∷ [])
    after_end had facts = subst (λ (hs : List (Held O)). AllByRecursion (IsOld had) hs) (sym (alive_after-end rules facts)) tt

    -- after any event: what a packet offers is fine or old enough, and a stopped router has nothing
    module _ (had : ℕ) (facts : List (Fact O)) (aged : Aged had facts) where
      nothing_new : Aged had (facts ++ [])
      nothing_new = subst (λ (fs : List (Fact O)). Aged had fs) (sym (append-nil facts)) aged

      pub after_event : (up : List ℕ) (runs : Bool) (offered : ℕ → List ℕ → List (Fact O)) (event : Event)
          → (runs ≡ false → AllByRecursion (λ o. ⊥) (offers (held rules facts)))
          → ((number : ℕ) (bytes : List ℕ) → event ≡ Packet number bytes → AllByRecursion (OffersOf (IsOldOffer had)) (offered number bytes))
          → Aged (passed event had) (facts ++ facts_of up runs offered event)
      after_event up runs offered Start none fine = nothing_new
      after_event up true offered Stop none fine = after_end had facts
      after_event up false offered Stop none fine = nothing_new
      after_event up true offered PassedSecond none fine = after_second had facts aged
      after_event up false offered PassedSecond none fine =
          subst (λ (fs : List (Fact O)). Aged (suc had) fs) (sym (append-nil facts)) (where_none (suc had) facts (none refl))
      after_event up runs offered (Packet number bytes) none fine = after_offers had (offered number bytes) facts (fine number bytes refl) aged
      after_event up runs offered (PortDown number) none fine = elim (cases_Bool (is_up up number)) [
        | inl e ↦ rw e (after_port had facts number aged)
        | inr e ↦ rw e nothing_new
      ]
      after_event up runs offered (PortUp number) none fine = nothing_new

    -- what is held then is fine, or so old, and reached
    abbrev pub IsOldHeld : ℕ → O → Type 0
    IsOldHeld had o = (Fine o ⊎ IsBelow delay slack (hops o + 1) had) × (hops o < unreachable)

    pub old_held : (had : ℕ) (facts : List (Fact O)) → Aged had facts → AllByRecursion (IsOldHeld had) (offers (held rules facts))
    old_held had facts aged =
        all_offers (IsOldHeld had) (in_order rules.by_key (alive_after facts))
        (all_in_order (IsOldHeld had) rules.by_key (alive_after facts)
        (all_then (λ h. IsOld had h × IsNear h) (λ h. IsOldHeld had h.offer) (λ h both. (one h both.0 both.1.1, both.1.0)) (alive_after facts)
        (all_both (IsOld had) IsNear (alive_after facts) aged (near_young facts))))
      where
        one : (h : Held O) → IsOld had h → h.age < lifetime → Fine h.offer ⊎ IsBelow delay slack (hops h.offer + 1) had
        one h (inl fine) young = inl fine
        one h (inr old) young = inr (omega (arith, old, young))

    -- after that many seconds all of them are fine
    pub fine_at_last : (had : ℕ) → slack + most_beats_gone delay ≤ had → (facts : List (Fact O)) → Aged had facts → AllByRecursion (λ h. Fine h.offer) (alive_after facts)
    fine_at_last had long facts aged =
        all_then (λ h. IsOld had h × IsNear h) (λ h. Fine h.offer) (λ h both. one h both.0 both.1.0 both.1.1) (alive_after facts)
        (all_both (IsOld had) IsNear (alive_after facts) aged (near_young facts))
      where
        one : (h : Held O) → IsOld had h → hops h.offer < unreachable → h.age < lifetime → Fine h.offer
        one h (inl fine) near young = fine
        one h (inr old) near young =
            let most = mul-le-mul_left {m = hops h.offer} {n = unreachable - 1} (delay + lifetime) (omega (arith, near)) in
            absurd (omega (arith, old, most, young, long))

    -- so is what is held
    pub at_last : (had : ℕ) (facts : List (Fact O)) → slack + most_beats_gone delay ≤ had → Aged had facts → AllByRecursion Fine (offers (held rules facts))
    at_last had facts long aged =
        all_offers Fine (in_order rules.by_key (alive_after facts)) (all_in_order Fine rules.by_key (alive_after facts) (fine_at_last had long facts aged))
