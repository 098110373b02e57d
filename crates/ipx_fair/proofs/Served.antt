-- What time does to queues.
use Rattle.std.proofs.Common.{◌≡◌, ◌∙◌, sym, ap, arith, ℕ, ◌+◌, ◌-◌, ◌*◌, ◌<◌, ◌≤◌, ◌⊎◌, inl, inr, List, length, replicate}
use Rattle.std.proofs.Math.Nat.{mul-le-mul_left}
use Rattle.std.proofs.lemmas.Bool.{cases_order}
use Rattle.ipx_fair.specs.Queues.{total, waiting, lowered, beyond}
use Rattle.ipx_fair.specs.Hearing.{queue_of}
use Rattle.ipx_fair.specs.Serving.{Served}
use Rattle.ipx_fair.proofs.Queues.{waiting_least, all_empty, length-lowered, lowered_twice, queue_of-le-total, queue_of-lowered, served_most, some_served, total_fewer, waiting_fewer, beyond_fewer}

-- a queue has its part, where no more than n wait
part : (n level q p w time left : ℕ) → w ≤ n → p ≡ q + level → time ≤ left + level * w → time + n * q ≤ left + n * p
part n level q p w time left few is used =
    let more : level * w ≤ level * n = mul-le-mul_left level few in
    rw is (omega (arith, more, used))

module _ (time : ℕ) (old new : List ℕ) (left : ℕ) where
  -- what queues lose is time that passed
  pub served_within : Served time old new left → total old + left ≤ time + total new
  served_within s = elim s.time_used [ inl all ↦ omega (arith, all.0, all.1, all.2) | inr some ↦ omega (arith, some.1) ]

  -- where a queue waits afterwards, no time was lost
  pub served_exactly : Served time old new left → 0 < total new → time + total new ≡ left + total old
  served_exactly s some = elim s.time_used [ inl all ↦ absurd (omega (arith, all.0, some)) | inr is ↦ is.1 ]

  pub served_long : Served time old new left → length new ≡ length old
  served_long s = ap length s.queues ∙ length-lowered s.level old

  pub served_fewer : Served time old new left → waiting new ≤ waiting old
  served_fewer s = rw s.queues (waiting_fewer s.level old)

  pub served_less : Served time old new left → total new ≤ total old
  served_less s = rw s.queues (total_fewer s.level old)

  pub served_beyond : (part : ℕ) → Served time old new left → beyond part new ≤ beyond part old
  served_beyond part s = rw s.queues (beyond_fewer part s.level old)

  pub served_few_left : Served time old new left → (left ≡ 0) ⊎ (left < waiting new)
  served_few_left s = elim s.time_used [ inl all ↦ inl all.1 | inr some ↦ inr some.0 ]

  -- a queue that still waits was served its part of the time, or more
  pub served_part : (n k : ℕ) → waiting old ≤ n → Served time old new left → 0 < queue_of new k → time + n * queue_of new k ≤ left + n * queue_of old k
  served_part n k few s some =
      let here : queue_of new k ≡ queue_of old k - s.level = ap (λ (qs : List ℕ). queue_of qs k) s.queues ∙ queue_of-lowered s.level old k in
      let exactly = served_exactly s (omega (arith, some, queue_of-le-total new k)) in
      let most : total old ≤ total new + s.level * waiting old = rw s.queues (served_most s.level old) in
      part n s.level (queue_of new k) (queue_of old k) (waiting old) time left few (omega (arith, here, some)) (omega (arith, exactly, most))

-- ---- one way

same_served : (time : ℕ) (old a b : List ℕ) (l m : ℕ) (s : Served time old a l) (t : Served time old b m) → t.level ≡ s.level → a ≡ b
same_served time old a b l m s t e = s.queues ∙ ap (λ (level : ℕ). lowered level old) (sym e) ∙ sym t.queues

sum_of : (a b : ℕ) → a < b → b ≡ a + (b - a)
sum_of a b less = omega arith

both_empty : (old a b : List ℕ) → length a ≡ length old → length b ≡ length old → total a ≡ 0 → total b ≡ 0 → a ≡ b
both_empty old a b long as_long none empty =
    all_empty a none ∙ ap (λ (n : ℕ). replicate n 0) (long ∙ sym as_long) ∙ sym (all_empty b empty)

-- where two levels use the same time, neither is above the other
not_further : (time : ℕ) (old a b : List ℕ) (l m : ℕ) (s : Served time old a l) (t : Served time old b m) → s.level < t.level → a ≡ b
not_further time old a b l m s t less =
    let d : ℕ = t.level - s.level in
    let on : b ≡ lowered d a =
    t.queues ∙ ap (λ (level : ℕ). lowered level old) (sum_of s.level t.level less) ∙ sym (lowered_twice s.level d old) ∙ ap (lowered d) (sym s.queues) in
    let used : total b + waiting a ≤ total a = rw on (some_served d a (omega arith)) in
    elim s.time_used [
      | inl all ↦ elim t.time_used [
        | inl none ↦ both_empty old a b (served_long time old a l s) (served_long time old b m t) all.0 none.0
        | inr some ↦ absurd (omega (arith, some.0, some.1, all.0, all.2, waiting_least b))
      ]
      | inr more ↦ elim t.time_used [
        | inl none ↦ absurd (omega (arith, more.0, more.1, none.0, none.2, waiting_least a))
        | inr some ↦ absurd (omega (arith, more.0, more.1, some.0, some.1, used))
      ]
    ]

pub one_queues : (time : ℕ) (old a b : List ℕ) (l m : ℕ) → Served time old a l → Served time old b m → a ≡ b
one_queues time old a b l m s t = elim (cases_order s.level t.level) [
  | inl same ↦ same_served time old a b l m s t (sym same)
  | inr apart ↦ elim apart [
    | inl less ↦ not_further time old a b l m s t less
    | inr more ↦ sym (not_further time old b a m l t s more)
  ]
]

pub one_left : (time : ℕ) (old a b : List ℕ) (l m : ℕ) → Served time old a l → Served time old b m → a ≡ b → l ≡ m
one_left time old a b l m s t same =
    let all : total a ≡ total b = ap total same in
    elim s.time_used [
      | inl none ↦ elim t.time_used [
        | inl empty ↦ omega (arith, none.1, empty.1)
        | inr some ↦ absurd (omega (arith, none.0, all, some.0, waiting_least b))
      ]
      | inr more ↦ elim t.time_used [
        | inl empty ↦ absurd (omega (arith, empty.0, all, more.0, waiting_least a))
        | inr some ↦ omega (arith, more.1, some.1, all)
      ]
    ]
