-- A tally agrees with its ends, whatever is done to it.
use Rattle.std.proofs.Common.{◌≡◌, ◌∙◌, refl, sym, ap, ap₂, subst, arith, ℕ, ◌+◌, ◌-◌, ◌*◌, ◌^◌, ◌<◌, ◌≤◌, ◌⊎◌, inl, inr, max, List, length, get_or, set}
use Rattle.std.specs.List.{AllByRecursion}
use Rattle.std.proofs.lemmas.List.{map-set}
use Rattle.ipx_fair.specs.declared.tally.Tally.{Tally}
use Rattle.ipx_fair.specs.Queues.{total, waits, waiting, lowered}
use Rattle.ipx_fair.specs.Serving.{Served}
use Rattle.ipx_fair.specs.Hearing.{queue_of}
use Rattle.ipx_fair.specs.Tallies.{queues_of, state_of}
use Rattle.ipx_fair.specs.inside.Held.{Spares, Agrees}
use Rattle.ipx_fair.proofs.Queues.{waiting_least, some_wait, length-lowered, lowered_none, lowered_twice, queue_of-lowered, total-set, waiting-set}
use Rattle.ipx_fair.proofs.Kept.{state}
use Rattle.ipx_fair.proofs.Counted.{spares_fewer, spares_none, spared_total, spared_waiting, spared_less, spares-set, latest_more, latest-set, latest_lowered, all_served}

-- served some more
further : (s m level : ℕ) (ends : List ℕ) → m ≡ s + level → lowered m ends ≡ lowered level (lowered s ends)
further s m level ends is = ap (λ (x : ℕ). lowered x ends) is ∙ sym (lowered_twice s level ends)

pub tally_waits : (t : Tally) (ends : List ℕ) → Agrees t ends → 0 < t.total → 0 < t.waits
tally_waits t ends a some =
    let all : 0 < total (queues_of t ends) = omega (arith, a.total, some) in
    omega (arith, a.waits, some_wait (queues_of t ends) all)

-- ---- all that wait are lowered alike

abbrev pub lower : Tally → ℕ → Tally
lower t level = record t { served = t.served + level; spare = t.spare - level; total = t.total - level * t.waits }

lowered_total : (t : Tally) (ends : List ℕ) (level : ℕ) → Agrees t ends → level ≤ t.spare + 1
    → total (lowered (t.served + level) ends) ≡ t.total - level * t.waits
lowered_total t ends level a few =
    let qs = queues_of t ends in
    let is = spared_total t.spare level qs a.spare few in
    let all : total (lowered level qs) + level * t.waits ≡ t.total = rw (a.waits, a.total) is in
    ap total (further t.served (t.served + level) level ends refl) ∙ omega (arith, all)

pub agrees_lowered : (t n : Tally) (ends : List ℕ) (level : ℕ) → Agrees t ends → level ≤ t.spare → n ≡ lower t level → Agrees n ends
agrees_lowered t n ends level a few is =
    let qs = queues_of t ends in
    let on = further t.served (t.served + level) level ends refl in
    subst (λ (x : Tally). Agrees x ends) (sym is) (
    record {
      total = sym (lowered_total t ends level a (omega (arith, few)));
      waits = a.waits ∙ sym (spared_waiting t.spare level qs a.spare few) ∙ ap waiting (sym on);
      spare = subst (Spares (t.spare - level)) (sym on) (spared_less t.spare level qs a.spare few);
      latest = a.latest;
    }
    )

-- as far as the shortest is empty, and counted anew
pub agrees_recounted : (t m n : Tally) (ends : List ℕ) → Agrees t ends → m ≡ lower t (t.spare + 1)
    → n ≡ record m { waits = waiting (queues_of m ends); spare = n.spare } → Spares n.spare (queues_of m ends) → Agrees n ends
agrees_recounted t m n ends a lowered_is is spares =
    let served : m.served ≡ t.served + (t.spare + 1) = ap (λ (x : Tally). x.served) lowered_is in
    let same : n.served ≡ m.served = ap (λ (x : Tally). x.served) is in
    let queues : queues_of m ends ≡ queues_of n ends = ap (λ (x : ℕ). lowered x ends) (sym same) in
    let all : n.total ≡ t.total - (t.spare + 1) * t.waits = ap (λ (x : Tally). x.total) is ∙ ap (λ (x : Tally). x.total) lowered_is in
    let latest : t.latest ≡ n.latest = sym (ap (λ (x : Tally). x.latest) is ∙ ap (λ (x : Tally). x.latest) lowered_is) in
    record {
      total = all ∙ sym (lowered_total t ends (t.spare + 1) a (omega arith)) ∙ ap (λ (x : ℕ). total (lowered x ends)) (sym served ∙ sym same);
      waits = ap (λ (x : Tally). x.waits) is ∙ ap waiting queues;
      spare = subst (Spares n.spare) queues spares;
      latest = subst (λ (x : ℕ). AllByRecursion (λ (e : ℕ). e ≤ x) ends) latest a.latest;
    }

-- queues were served from one tally to the other
pub served_between : (time left : ℕ) (t n : Tally) (ends : List ℕ) → Agrees t ends → Agrees n ends → t.served ≤ n.served
    → left < n.waits → time + n.total ≡ left + t.total → Served time (queues_of t ends) (queues_of n ends) left
served_between time left t n ends a b forward few used = record {
  level = n.served - t.served;
  queues = further t.served n.served (n.served - t.served) ends (omega (arith, forward));
  time_used = inr (omega (arith, few, b.waits), omega (arith, used, a.total, b.total));
}

-- ---- all are empty

abbrev pub emptied : Tally → Tally
emptied t = record t { left = 0; served = max t.served t.latest; spare = 2 ^ 64 - 1; waits = 0; total = 0 }

none_left : (qs : List ℕ) → total qs ≡ 0 → 0 ≡ waiting qs
none_left qs none = omega (arith, none, waiting_least qs)

emptied_total : (t : Tally) (ends : List ℕ) → Agrees t ends → total (lowered (max t.served t.latest) ends) ≡ 0
emptied_total t ends a = all_served t.latest (max t.served t.latest) ends a.latest (omega arith)

pub agrees_emptied : (t n : Tally) (ends : List ℕ) → Agrees t ends → n ≡ emptied t → Agrees n ends
agrees_emptied t n ends a is =
    let none = emptied_total t ends a in
    subst (λ (x : Tally). Agrees x ends) (sym is) (
    record {
      total = sym none;
      waits = none_left (lowered (max t.served t.latest) ends) none;
      spare = spares_none (2 ^ 64 - 1) (lowered (max t.served t.latest) ends) none;
      latest = a.latest;
    }
    )

pub served_all : (time : ℕ) (t n : Tally) (ends : List ℕ) → Agrees t ends → n ≡ emptied t → t.total ≤ time
    → Served time (queues_of t ends) (queues_of n ends) n.left
served_all time t n ends a is enough =
    subst (λ (x : Tally). Served time (queues_of t ends) (queues_of x ends) x.left) (sym is) (
    record {
      level = max t.served t.latest - t.served;
      queues = further t.served (max t.served t.latest) (max t.served t.latest - t.served) ends (omega arith);
      time_used = inl (emptied_total t ends a, refl, omega (arith, enough, a.total));
    }
    )

-- ---- counted from 0 again

abbrev pub begun : Tally → Tally
begun t = record t { latest = t.latest - t.served; served = 0 }

-- the receiver is the same
pub begun_state : (t n : Tally) (ends after : List ℕ) → n ≡ begun t → after ≡ lowered t.served ends → state_of t ends ≡ state_of n after
begun_state t n ends after is on =
    ap (λ (qs : List ℕ). state t.setting t.left qs) (sym (lowered_none (lowered t.served ends)))
    ∙ sym (ap₂ (λ (x : Tally) (xs : List ℕ). state_of x xs) is on)

pub agrees_begun : (t n : Tally) (ends after : List ℕ) → Agrees t ends → n ≡ begun t → after ≡ lowered t.served ends → Agrees n after
agrees_begun t n ends after a is on =
    let same = lowered_none (lowered t.served ends) in
    subst (λ (xs : List ℕ). Agrees n xs) (sym on) (subst (λ (x : Tally). Agrees x (lowered t.served ends)) (sym is) (
    record {
      total = a.total ∙ ap total (sym same);
      waits = a.waits ∙ ap waiting (sym same);
      spare = subst (Spares t.spare) (sym same) a.spare;
      latest = latest_lowered t.latest t.served ends a.latest;
    }
    ))

-- ---- a queue grows

pub added_queues : (s q w k : ℕ) (ends : List ℕ) → q ≡ get_or ends k 0 - s → lowered s (set ends k (s + q + w)) ≡ set (lowered s ends) k (queue_of (lowered s ends) k + w)
added_queues s q w k ends is =
    let grown : s + q + w - s ≡ queue_of (lowered s ends) k + w = omega (arith, is, queue_of-lowered s ends k) in
    map-set (λ (e : ℕ). e - s) ends k (s + q + w) ∙ ap (set (lowered s ends) k) grown

pub agrees_added : (t n : Tally) (ends : List ℕ) (k q w : ℕ) → Agrees t ends → k < length ends → q ≡ get_or ends k 0 - t.served
    → n ≡ record t { latest = max t.latest (t.served + q + w); total = t.total + w; spare = n.spare; waits = n.waits }
    → n.waits + waits q ≡ t.waits + waits (q + w) → n.spare ≤ t.spare → (q + w ≡ 0) ⊎ (n.spare < q + w) → Agrees n (set ends k (t.served + q + w))
agrees_added t n ends k q w a there is same wait less spares =
    let qs = queues_of t ends in
    let served : n.served ≡ t.served = ap (λ (x : Tally). x.served) same in
    let queue : queue_of qs k ≡ q = queue_of-lowered t.served ends k ∙ sym is in
    let new : queues_of n (set ends k (t.served + q + w)) ≡ set qs k (q + w) =
    ap (λ (x : ℕ). lowered x (set ends k (t.served + q + w))) served ∙ added_queues t.served q w k ends is ∙ ap (λ (x : ℕ). set qs k (x + w)) queue in
    let within : k < length qs = omega (arith, there, length-lowered t.served ends) in
    let latest : max t.latest (t.served + q + w) ≡ n.latest = sym (ap (λ (x : Tally). x.latest) same) in
    record {
      total = ap (λ (x : Tally). x.total) same ∙ omega (arith, a.total, total-set qs k (q + w) within, queue) ∙ ap total (sym new);
      waits = omega (arith, a.waits, wait, waiting-set qs k (q + w) within, ap waits queue) ∙ ap waiting (sym new);
      spare = subst (Spares n.spare) (sym new) (spares-set n.spare qs k (q + w) spares (spares_fewer t.spare n.spare qs less a.spare));
      latest = subst (λ (x : ℕ). AllByRecursion (λ (e : ℕ). e ≤ x) (set ends k (t.served + q + w))) latest
          (latest-set (max t.latest (t.served + q + w)) ends k (t.served + q + w) (omega arith) (latest_more t.latest (max t.latest (t.served + q + w)) ends (omega arith) a.latest));
    }
