-- What holds of the alive offers of every list of facts.
use Rattle.std.proofs.Common.{◌≡◌, sym, subst, ℕ, ◌+◌, ◌≤◌, ◌==◌, suc, Bool, true, false, not, ◌&&◌, ◌||◌, nat_lt, List, [], ◌∷◌, ◌++◌, filter, length, inl, inr, arith, true≢false, length-append}
use Rattle.std.specs.List.{list_any}
use Rattle.std.specs.Cmp.{IsTotalOrder}
use Rattle.std.proofs.lemmas.Bool.{cases_Bool, and_parts, or_cases, ltb-true}
use Rattle.std.proofs.lemmas.List.{length-map}
use Rattle.ipx_table.specs.Reading.{Rules, same_key}
use Rattle.ipx_table.specs.Facts.{Fact, Offered, Second, PortEnd, End, Marked}
use Rattle.ipx_table.specs.Alive.{alive, cuts}
use Rattle.ipx_table.specs.Accepted.{is_accepted, is_new_with_room, refreshes, replaces, has_share, may_replace, marked, marked_after}
use Rattle.ipx_table.specs.inside.AfterOffer.{fresh, uncut, after_offer}
use Rattle.ipx_table.specs.Stands.{second_later, without_port, is_last, older, IsKept}
use Rattle.ipx_table.specs.declared.held.Held.{Held}
use Rattle.ipx_table.proofs.History.{alive-offered, alive-second, alive-port, alive-end}
use Rattle.ipx_table.proofs.Offers.{kept-after, kept-filter}
use Rattle.ipx_table.proofs.Seconds.{kept-second}
use Rattle.ipx_table.proofs.Singles.{length-filter}

-- a filter that leaves one out, at least
pub length-left : {X : Type 0} (p q : X → Bool) → ((x : X) → q x ≡ true → p x ≡ false) → (xs : List X) → list_any q xs ≡ true → suc (length (filter p xs)) ≤ length xs
length-left p q leaves [] any = absurd (true≢false (sym any))
length-left p q leaves (x ∷ xs) any = elim (cases_Bool (q x)) [
  | inl e ↦ let out = leaves x e in rw out (omega (arith, length-filter p xs))
  | inr e ↦
      let rest : list_any q xs ≡ true = rw e at any in
      let ih = length-left p q leaves xs rest in
      elim (cases_Bool (p x)) [
        | inl kept ↦ rw kept (omega (arith, ih))
        | inr out ↦ rw out (omega (arith, ih))
      ]
]

pub cut_out : (key source : Bool) → key ≡ true → not (key && (source || true)) ≡ false
cut_out key source e = grind arith

module _ {O : Type 0} (rules : Rules O) where
  -- what holds of nothing, and after one offer and one second more, holds of the alive offers of all facts
  pub always_after : (P : List (Held O) → Type 0) → P [] → ((held : List (Held O)) (offer : O) → P held → P (after_offer rules held offer))
      → ((held : List (Held O)) → P held → P (second_later held))
      → ((held : List (Held O)) (port : ℕ) → P held → P (without_port rules.port port held))
      → (before : List (Marked O)) → P (alive rules before) → (facts : List (Fact O)) → P (alive rules (marked_after rules before facts))
  always_after P start by_offer by_second by_port before now [] = now
  always_after P start by_offer by_second by_port before now (Offered offer ∷ facts) =
      let mark = is_accepted rules (alive rules before) (Offered offer) in
      always_after P start by_offer by_second by_port (before ++ (Offered offer, mark) ∷ [])
      (subst P (sym (alive-offered rules before offer mark)) (by_offer (alive rules before) offer now)) facts
  always_after P start by_offer by_second by_port before now (Second ∷ facts) =
      always_after P start by_offer by_second by_port (before ++ (Second, false) ∷ []) (subst P (sym (alive-second rules before false)) (by_second (alive rules before) now)) facts
  always_after P start by_offer by_second by_port before now (PortEnd port ∷ facts) =
      always_after P start by_offer by_second by_port (before ++ (PortEnd port, false) ∷ []) (subst P (sym (alive-port rules before port false)) (by_port (alive rules before) port now)) facts
  always_after P start by_offer by_second by_port before now (End ∷ facts) =
      always_after P start by_offer by_second by_port (before ++ (End, false) ∷ []) (subst P (sym (alive-end rules before false)) start) facts

  few-after : (held : List (Held O)) (offer : O) → length held ≤ rules.capacity → length (after_offer rules held offer) ≤ rules.capacity
  few-after held offer few =
      elim (cases_Bool (is_accepted rules held (Offered offer))) [
        | inl yea ↦ rw yea (subst (λ (n : ℕ). n ≤ rules.capacity) (sym (length-append (uncut rules offer true held) (fresh offer ∷ []))) (accepted ((and_parts (not (rules.is_down offer)) (refreshes rules offer held || replaces rules offer held || is_new_with_room rules offer held) yea).1)))
        | inr nay ↦ rw nay (subst (λ (n : ℕ). n ≤ rules.capacity) (sym (length-append (uncut rules offer false held) []))
            (omega (arith, few, length-filter (λ h. not (cuts rules offer false h.offer)) held)))
      ]
    where
      p : Held O → Bool
      p h = not (cuts rules offer true h.offer)

      out_own : (h : Held O) → (same_key rules.by_key h.offer offer && rules.same_source h.offer offer) ≡ true → p h ≡ false
      out_own h e = cut_out (same_key rules.by_key h.offer offer) (rules.same_source h.offer offer) (and_parts (same_key rules.by_key h.offer offer) (rules.same_source h.offer offer) e).0

      out_better : (h : Held O) → (same_key rules.by_key h.offer offer && not (rules.same_source h.offer offer) && rules.is_worse h.offer offer && may_replace rules offer held h) ≡ true → p h ≡ false
      out_better h e =
          let better = (and_parts (same_key rules.by_key h.offer offer && not (rules.same_source h.offer offer) && rules.is_worse h.offer offer) (may_replace rules offer held h) e).0 in
          let known = (and_parts (same_key rules.by_key h.offer offer && not (rules.same_source h.offer offer)) (rules.is_worse h.offer offer) better).0 in
          cut_out (same_key rules.by_key h.offer offer) (rules.same_source h.offer offer) (and_parts (same_key rules.by_key h.offer offer) (not (rules.same_source h.offer offer)) known).0

      accepted : (refreshes rules offer held || replaces rules offer held || is_new_with_room rules offer held) ≡ true → length (uncut rules offer true held) + 1 ≤ rules.capacity
      accepted e = elim (or_cases (refreshes rules offer held || replaces rules offer held) (is_new_with_room rules offer held) e) [
        | inl known ↦ elim (or_cases (refreshes rules offer held) (replaces rules offer held) known) [
          | inl own ↦ omega (arith, few, length-left p (λ h. same_key rules.by_key h.offer offer && rules.same_source h.offer offer) out_own held own)
          | inr better ↦ omega (
            arith,
            few,
            length-left p (λ h. same_key rules.by_key h.offer offer && not (rules.same_source h.offer offer) && rules.is_worse h.offer offer && may_replace rules offer held h) out_better held better,
          )
        ]
        | inr room ↦
            let key_and_room = (and_parts (not (list_any (λ h. same_key rules.by_key h.offer offer) held) && nat_lt (length held) rules.capacity) (has_share rules offer held) room).0 in
            let free = ltb-true (length held) rules.capacity (and_parts (not (list_any (λ h. same_key rules.by_key h.offer offer) held)) (nat_lt (length held) rules.capacity) key_and_room).1 in
            omega (arith, free, length-filter p held)
      ]

  pub few : (facts : List (Fact O)) → length (alive rules (marked rules facts)) ≤ rules.capacity
  few facts =
      always_after (λ held. length held ≤ rules.capacity) (omega arith) few-after
      (λ held le. omega (arith, le, length-map (filter (λ h. not (is_last h)) held) older, length-filter (λ h. not (is_last h)) held))
      (λ held port le. omega (arith, le, length-filter (λ h. not (rules.port h.offer == port)) held)) [] (omega arith) facts

  pub kept : IsTotalOrder rules.by_key → (facts : List (Fact O)) → IsKept rules.by_key (alive rules (marked rules facts))
  kept total facts =
      always_after (IsKept rules.by_key) nothing (kept-after rules total) (kept-second rules.by_key total)
      (λ held port k. kept-filter rules total (λ h. not (rules.port h.offer == port)) held k) [] nothing facts
    where
      nothing : IsKept rules.by_key []
      nothing = record { distinct = λ q. omega arith; young = tt }
