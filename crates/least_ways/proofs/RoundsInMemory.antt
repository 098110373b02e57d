-- Rounds of deliveries in memory, one after the other.
use Rattle.std.proofs.Common.{arith, ◌≡◌, ap, ◌∙◌, subst, ℕ, zero, suc, ◌+◌, List, [], length}
use Rattle.ipx_internet.specs.Internet.{Internet}
use Rattle.ipx_internet.specs.Moment.{Moment, StandsFor, net_at}
use Rattle.ipx_internet.specs.Queue.{Delivery, Queued, settled}
use Rattle.ipx_internet.specs.Rounds.{round, rounds}
use Rattle.ipx_internet.specs.Settled.{HasSettled}
use Rattle.least_ways.specs.Rest.{HasRounds}

module _ (most_routes most_services : ℕ) where
  -- all that waits is delivered: one round more
  pub one_more : (count : ℕ) (old now new : Moment) (limit : ℕ) → net_at now ≡ net_at old → limit ≡ length now.queue
      → HasRounds most_routes most_services count old now → HasSettled most_routes most_services limit now new
      → HasRounds most_routes most_services (count + 1) old new
  one_more count old now new limit same all before settles q stands =
      let net = net_at old in
      let p : Queued = rounds net most_routes most_services count q in
      let stood : StandsFor most_routes most_services now p = before q stands in
      let next : suc count ≡ count + 1 = omega arith in
      let as_many : limit ≡ length p.queue = all ∙ ap (λ (ds : List Delivery). length ds) stood.queue in
      subst (λ (x : Queued). StandsFor most_routes most_services new x)
      (ap (λ (n : Internet). settled n most_routes most_services limit p) same ∙ ap (λ (n : ℕ). settled net most_routes most_services n p) as_many
      ∙ ap (λ (n : ℕ). rounds net most_routes most_services n q) next)
      (settles p stood)

  -- so many rounds and so many more
  pub rounds_more : (net : Internet) (more count : ℕ) (q : Queued)
      → rounds net most_routes most_services more (rounds net most_routes most_services count q) ≡ rounds net most_routes most_services (more + count) q
  rounds_more net zero count q =
      let same : count ≡ 0 + count = omega arith in
      ap (λ (n : ℕ). rounds net most_routes most_services n q) same
  rounds_more net (suc more) count q =
      let same : suc (more + count) ≡ suc more + count = omega arith in
      ap (λ (p : Queued). round net most_routes most_services p) (rounds_more net more count q)
      ∙ ap (λ (n : ℕ). rounds net most_routes most_services n q) same

  -- an internet that stands for what nothing waits in has nothing that waits
  pub is_at_rest : (old now new : Moment) (more count : ℕ) (q : Queued) → net_at now ≡ net_at old → StandsFor most_routes most_services old q
      → HasRounds most_routes most_services count old now → HasRounds most_routes most_services more now new
      → (rounds (net_at old) most_routes most_services (more + count) q).queue ≡ [] → new.queue ≡ []
  is_at_rest old now new more count q same stands first then quiet =
      let net = net_at old in
      let last = then (rounds net most_routes most_services count q) (first q stands) in
      last.queue
      ∙ ap (λ (n : Internet). (rounds n most_routes most_services more (rounds net most_routes most_services count q)).queue) same
      ∙ ap (λ (p : Queued). p.queue) (rounds_more net more count q)
      ∙ quiet
