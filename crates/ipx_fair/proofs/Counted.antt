-- What is counted of queues stays right.
use Rattle.std.proofs.Common.{◌≡◌, ◌∙◌, refl, sym, arith, ℕ, zero, suc, ◌+◌, ◌-◌, ◌*◌, ◌<◌, ◌≤◌, ◌⊎◌, inl, inr, List, [], ◌∷◌, ◌++◌, length, get_or, take, set}
use Rattle.std.specs.List.{AllByRecursion}
use Rattle.std.proofs.lemmas.List.{map_more}
use Rattle.ipx_fair.specs.Queues.{total, waits, waiting, lowered}
use Rattle.ipx_fair.specs.Hearing.{queue_of}
use Rattle.ipx_fair.specs.inside.Held.{Spares}
use Rattle.ipx_fair.proofs.Queues.{waits_some}

-- ---- what queues can spare

pub spares_fewer : (spare less : ℕ) (qs : List ℕ) → less ≤ spare → Spares spare qs → Spares less qs
spares_fewer spare less [] few s = tt
spares_fewer spare less (q ∷ qs) few s =
    (elim s.0 [ inl none ↦ inl none | inr some ↦ inr (omega (arith, few, some)) ], spares_fewer spare less qs few s.1)

pub spares_none : (spare : ℕ) (qs : List ℕ) → total qs ≡ 0 → Spares spare qs
spares_none spare [] none = tt
spares_none spare (q ∷ qs) none =
    let first : q ≡ 0 = omega arith in
    let rest : total qs ≡ 0 = omega arith in
    (inl first, spares_none spare qs rest)

one_lowered : (spare level q : ℕ) → (q ≡ 0) ⊎ (spare < q) → level ≤ spare + 1 → (q - level) + level * waits q ≡ q
one_lowered spare level zero s few = omega arith
one_lowered spare level (suc q) s few = elim s [ inl none ↦ absurd (omega (arith, none)) | inr some ↦ omega (arith, some, few) ]

pub spared_total : (spare level : ℕ) (qs : List ℕ) → Spares spare qs → level ≤ spare + 1 → total (lowered level qs) + level * waiting qs ≡ total qs
spared_total spare level [] s few = omega arith
spared_total spare level (q ∷ qs) s few = omega (arith, one_lowered spare level q s.0 few, spared_total spare level qs s.1 few)

still_waits : (spare level q : ℕ) → (q ≡ 0) ⊎ (spare < q) → level ≤ spare → waits (q - level) ≡ waits q
still_waits spare level q s few = elim s [
  | inl none ↦ rw none (let e : 0 - level ≡ 0 = omega arith in rw e refl)
  | inr some ↦ waits_some (q - level) (omega (arith, some, few)) ∙ sym (waits_some q (omega (arith, some)))
]

pub spared_waiting : (spare level : ℕ) (qs : List ℕ) → Spares spare qs → level ≤ spare → waiting (lowered level qs) ≡ waiting qs
spared_waiting spare level [] s few = refl
spared_waiting spare level (q ∷ qs) s few = omega (arith, still_waits spare level q s.0 few, spared_waiting spare level qs s.1 few)

pub spared_less : (spare level : ℕ) (qs : List ℕ) → Spares spare qs → level ≤ spare → Spares (spare - level) (lowered level qs)
spared_less spare level [] s few = tt
spared_less spare level (q ∷ qs) s few = (
  elim s.0 [ inl none ↦ inl (omega (arith, none)) | inr some ↦ inr (omega (arith, some, few)) ],
  spared_less spare level qs s.1 few,
)

pub spares-set : (spare : ℕ) (qs : List ℕ) (k y : ℕ) → (y ≡ 0) ⊎ (spare < y) → Spares spare qs → Spares spare (set qs k y)
spares-set spare [] k y new s = tt
spares-set spare (q ∷ qs) zero y new s = (new, s.1)
spares-set spare (q ∷ qs) (suc k) y new s = (s.0, spares-set spare qs k y new s.1)

pub spares-get : (spare : ℕ) (qs : List ℕ) (k : ℕ) → Spares spare qs → (queue_of qs k ≡ 0) ⊎ (spare < queue_of qs k)
spares-get spare [] k s = inl refl
spares-get spare (q ∷ qs) zero s = s.0
spares-get spare (q ∷ qs) (suc k) s = spares-get spare qs k s.1

pub spares_push : (spare : ℕ) (qs : List ℕ) (y : ℕ) → Spares spare qs → (y ≡ 0) ⊎ (spare < y) → Spares spare (qs ++ y ∷ [])
spares_push spare [] y s new = (new, tt)
spares_push spare (q ∷ qs) y s new = (s.0, spares_push spare qs y s.1 new)

pub waiting_push : (qs : List ℕ) (y : ℕ) → waiting (qs ++ y ∷ []) ≡ waiting qs + waits y
waiting_push [] y = omega arith
waiting_push (q ∷ qs) y = omega (arith, waiting_push qs y)

pub lowered_more : (level : ℕ) (ends : List ℕ) (i : ℕ) → i < length ends → lowered level (take (i + 1) ends) ≡ lowered level (take i ends) ++ (get_or ends i 0 - level) ∷ []
lowered_more level ends i within = map_more (λ (e : ℕ). e - level) ends i 0 within

-- ---- the latest end

pub latest_more : (latest more : ℕ) (ends : List ℕ) → latest ≤ more → AllByRecursion (λ (e : ℕ). e ≤ latest) ends → AllByRecursion (λ (e : ℕ). e ≤ more) ends
latest_more latest more [] less all = tt
latest_more latest more (e ∷ ends) less all = (omega (arith, less, all.0), latest_more latest more ends less all.1)

pub latest-set : (latest : ℕ) (ends : List ℕ) (k y : ℕ) → y ≤ latest → AllByRecursion (λ (e : ℕ). e ≤ latest) ends → AllByRecursion (λ (e : ℕ). e ≤ latest) (set ends k y)
latest-set latest [] k y new all = tt
latest-set latest (e ∷ ends) zero y new all = (new, all.1)
latest-set latest (e ∷ ends) (suc k) y new all = (all.0, latest-set latest ends k y new all.1)

pub latest_lowered : (latest level : ℕ) (ends : List ℕ) → AllByRecursion (λ (e : ℕ). e ≤ latest) ends → AllByRecursion (λ (e : ℕ). e ≤ latest - level) (lowered level ends)
latest_lowered latest level [] all = tt
latest_lowered latest level (e ∷ ends) all = (omega (arith, all.0), latest_lowered latest level ends all.1)

pub latest_zero : (latest : ℕ) (ends : List ℕ) → total ends ≡ 0 → AllByRecursion (λ (e : ℕ). e ≤ latest) ends
latest_zero latest [] none = tt
latest_zero latest (e ∷ ends) none = (omega arith, latest_zero latest ends (omega arith))

-- served beyond the latest end, all queues are empty
pub all_served : (latest served : ℕ) (ends : List ℕ) → AllByRecursion (λ (e : ℕ). e ≤ latest) ends → latest ≤ served → total (lowered served ends) ≡ 0
all_served latest served [] all beyond = refl
all_served latest served (e ∷ ends) all beyond = omega (arith, all.0, all_served latest served ends all.1 beyond)
