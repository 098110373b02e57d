-- Whatever waits, after 34 rounds and one for each router nothing does.
use Rattle.std.proofs.Common.{◌≡◌, refl, ap, ◌∙◌, ℕ, zero, suc, ◌+◌, ◌-◌, ◌≤◌, [], length, arith}
use Rattle.std.specs.List.{AllByRecursion}
use Rattle.ipx_router.specs.Numbers.{unreachable}
use Rattle.ipx_internet.specs.Internet.{Internet, IsInternet}
use Rattle.ipx_internet.specs.Queue.{Queued, settled}
use Rattle.ipx_internet.specs.Rounds.{IsDelivery, round, rounds, handed_out, most_rounds}
use Rattle.ipx_internet.specs.Run.{AreHistories}
use Rattle.ipx_internet.proofs.deliveries.SettledOneByOne.{settled_then, none_settle}
use Rattle.ipx_internet.proofs.lists.EachElement.{all_then}
use Rattle.ipx_internet.proofs.packets.SentOnOrReply.{Layouts}
use Rattle.ipx_internet.proofs.rounds.OneHolderLessARound.{Dying, died, ebbed_out, nothing_waits}
use Rattle.ipx_internet.proofs.rounds.OneHopMoreARound.{Ebbs, ebbed}
use Rattle.ipx_internet.proofs.rounds.SentOnRunsOut.{all_calm}

module _ (net : Internet) (most_routes most_services : ℕ) where
  -- so many rounds, and then some more
  pub rounds_more : (a b n : ℕ) (q : Queued) → n ≡ a + b → rounds net most_routes most_services n q ≡ rounds net most_routes most_services a (rounds net most_routes most_services b q)
  rounds_more zero b n q e = grind arith
  rounds_more (suc a) b zero q e = absurd (omega (arith, e))
  rounds_more (suc a) b (suc n) q e = ap (round net most_routes most_services) (rounds_more a b n q (omega (arith, e)))

  -- they are as many deliveries as are handed out in them
  pub all_settled : (n : ℕ) (q : Queued) → settled net most_routes most_services (handed_out net most_routes most_services n q) q ≡ rounds net most_routes most_services n q
  all_settled zero q = refl
  all_settled (suc n) q = grind (arith, all_settled n q, settled_then)

  -- where nothing waits any more, further deliveries change nothing
  none_left : (n limit : ℕ) (q : Queued) → n ≤ limit → (settled net most_routes most_services n q).queue ≡ [] → (settled net most_routes most_services limit q).queue ≡ []
  none_left n limit q few none =
      let so_far = settled net most_routes most_services n q in
      let all : limit ≡ n + (limit - n) = omega (arith, few) in
      ap (λ (k : ℕ). (settled net most_routes most_services k q).queue) all
      ∙ ap (λ (r : Queued). r.queue) (settled_then net most_routes most_services n (limit - n) q ∙ none_settle net most_routes most_services (limit - n) so_far none) ∙ none

  module _ (laws : Layouts) (is : IsInternet net) (q : Queued) (are : AreHistories net q.histories) (waits : AllByRecursion (IsDelivery net) q.queue) where
    abbrev calmed : Queued
    calmed = rounds net most_routes most_services 17 q

    abbrev ebbed_away : Queued
    ebbed_away = rounds net most_routes most_services unreachable calmed

    pub quiet : (rounds net most_routes most_services (most_rounds net) q).queue ≡ []
    quiet =
        let calm = all_calm net laws is most_routes most_services q are waits in
        let ebb = ebbed net laws is most_routes most_services unreachable calmed calm.histories calm.queue in
        let dying = all_then (Ebbs net laws is most_routes most_services unreachable) (Dying net laws is most_routes most_services 0 ebbed_away.histories)
        (ebbed_out net laws is most_routes most_services ebbed_away.histories) ebbed_away.queue ebb.queue in
        let dead = died net laws is most_routes most_services (length net) ebbed_away ebb.histories dying in
        let last = rounds net most_routes most_services (suc (length net)) ebbed_away in
        let first : rounds net most_routes most_services (most_rounds net) q ≡ rounds net most_routes most_services (suc (length net) + 16) calmed =
        rounds_more (suc (length net) + 16) 17 (most_rounds net) q (omega arith) in
        let second : rounds net most_routes most_services (suc (length net) + 16) calmed ≡ last = rounds_more (suc (length net)) 16 (suc (length net) + 16) calmed refl in
        ap (λ (r : Queued). r.queue) (first ∙ second) ∙ nothing_waits net laws is most_routes most_services last.histories last.queue dead.queue

    pub enough : (limit : ℕ) → handed_out net most_routes most_services (most_rounds net) q ≤ limit → (settled net most_routes most_services limit q).queue ≡ []
    enough limit few = grind (arith, none_left, all_settled, quiet)
