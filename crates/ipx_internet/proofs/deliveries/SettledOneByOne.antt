-- Deliveries that happen one after the other, and an internet where none waits.
use Rattle.std.proofs.Common.{◌≡◌, refl, sym, ap, ◌∙◌, subst, ℕ, zero, suc, ◌+◌, ◌-◌, ◌≤◌, List, [], ◌∷◌, length, arith}
use Rattle.ipx_router.specs.History.{Packet}
use Rattle.ipx_internet.specs.Internet.{Internet}
use Rattle.ipx_internet.specs.Moment.{Moment, StandsFor, net_at}
use Rattle.ipx_internet.specs.Queue.{Delivery, Queued, queued, settled_one, settled}
use Rattle.ipx_internet.specs.Settled.{HasSettled}

module _ (net : Internet) (most_routes most_services : ℕ) where
  -- some deliveries, and then some more
  pub settled_then : (n m : ℕ) (q : Queued) → settled net most_routes most_services (n + m) q
      ≡ settled net most_routes most_services m (settled net most_routes most_services n q)
  settled_then zero m q =
      let e : zero + m ≡ m = omega arith in
      ap (λ k. settled net most_routes most_services k q) e
  settled_then (suc n) m q =
      let e : suc n + m ≡ suc (n + m) = omega arith in
      ap (λ k. settled net most_routes most_services k q) e ∙ settled_then n m (settled_one net most_routes most_services q)

  -- where none waits, nothing happens
  none_settles : (q : Queued) → q.queue ≡ [] → settled_one net most_routes most_services q ≡ q
  none_settles q none =
      ap
      (λ (ds : List Delivery).
      elim ds [
        | [] ↦ q
        | ◌∷◌ d queue ↦ queued net most_routes most_services (record q { queue = queue }) d.to.router (Packet d.to.port d.bytes)
      ])
      none

  pub none_settle : (n : ℕ) (q : Queued) → q.queue ≡ [] → settled net most_routes most_services n q ≡ q
  none_settle zero q none = refl
  none_settle (suc n) q none =
      ap (settled net most_routes most_services n) (none_settles q none) ∙ none_settle n q none

module _ (most_routes most_services : ℕ) where
  -- at first, none has happened
  pub none_yet : (m : Moment) → HasSettled most_routes most_services 0 m m
  none_yet m q stands = stands

  -- one delivery more
  pub one_more : (n : ℕ) (old now new : Moment) → net_at now ≡ net_at old → HasSettled most_routes most_services n old now
      → HasSettled most_routes most_services 1 now new → HasSettled most_routes most_services (n + 1) old new
  one_more n old now new same before one q stands =
      subst (λ r. StandsFor most_routes most_services new r)
      (ap (λ net. settled_one net most_routes most_services (settled (net_at old) most_routes most_services n q)) same
      ∙ sym (settled_then (net_at old) most_routes most_services n 1 q))
      (one (settled (net_at old) most_routes most_services n q) (before q stands))

  -- where none waits any more, it is as if the others had happened too
  pub no_more : (n limit : ℕ) (old new : Moment) → n ≤ limit → HasSettled most_routes most_services n old new → new.queue ≡ []
      → HasSettled most_routes most_services limit old new
  no_more n limit old new few before none q stands =
      let so_far = settled (net_at old) most_routes most_services n q in
      let rest : n + (limit - n) ≡ limit = omega (arith, few) in
      subst (λ r. StandsFor most_routes most_services new r)
      (sym (none_settle (net_at old) most_routes most_services (limit - n) so_far (sym (before q stands).queue ∙ none))
      ∙ sym (settled_then (net_at old) most_routes most_services n (limit - n) q)
      ∙ ap (λ k. settled (net_at old) most_routes most_services k q) rest)
      (before q stands)

-- of none, there is none
pub none_of : (queue : List Delivery) → length queue ≡ 0 → queue ≡ []
none_of [] none = refl
none_of (d ∷ queue) none =
    let no : ⊥ = omega (arith, none) in
    absurd no
