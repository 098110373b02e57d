-- Where only what routers sent for events of their own waits, nothing does after 17 rounds and one for each router.
use Rattle.std.proofs.Common.{◌≡◌, refl, ap, ◌∙◌, ℕ, zero, suc, ◌+◌, List, [], length, arith, rules}
use Rattle.std.specs.List.{AllByRecursion}
use Rattle.ipx_router.specs.History.{History}
use Rattle.ipx_router.specs.Numbers.{unreachable}
use Rattle.ipx_internet.specs.Internet.{Internet, IsInternet}
use Rattle.ipx_internet.specs.Queue.{Queued}
use Rattle.ipx_internet.specs.Rounds.{IsOwnStep, rounds, most_own_rounds}
use Rattle.ipx_internet.specs.Run.{Step, AreHistories, begun, forgotten, run_of}
use Rattle.ipx_internet.proofs.lists.EachElement.{all_then}
use Rattle.ipx_internet.proofs.packets.SentOnOrReply.{Layouts}
use Rattle.ipx_internet.proofs.rounds.OneHolderLessARound.{Dying, died, ebbed_out, nothing_waits}
use Rattle.ipx_internet.proofs.rounds.OneHopMoreARound.{Ebbs, ebbing}
use Rattle.ipx_internet.proofs.rounds.OneRound.{Holds, rounded}
use Rattle.ipx_internet.proofs.rounds.QuietAfterRounds.{rounds_more}
use Rattle.ipx_internet.proofs.rounds.RepliesAfterOneRound.{steps_open, ebbs_soon}

-- one more than that
abbrev later : ℕ → ℕ
later zero = 1
later (suc k) = suc (later k)

module _ (net : Internet) (laws : Layouts) (is : IsInternet net) (most_routes most_services : ℕ) where
  ebbs_on : (k : ℕ) (q : Queued) → AreHistories net q.histories → AllByRecursion (Ebbs net laws is most_routes most_services 1) q.queue
      → Holds net most_routes most_services (AreHistories net) (λ histories. Ebbs net laws is most_routes most_services (later k)) (rounds net most_routes most_services k q)
  ebbs_on zero q are all = record { histories = are; queue = all }
  ebbs_on (suc k) q are all = search (rules, ebbs_on k q are all, rounded, Ebbs, ebbing)

  module _ (histories : List History) (are : AreHistories net histories) (steps : List Step) (own : AllByRecursion (IsOwnStep net) steps) where
    abbrev begins : Queued
    begins = forgotten (run_of net most_routes most_services (begun histories) steps)

    abbrev one_later : Queued
    one_later = rounds net most_routes most_services 1 begins

    abbrev ebbed_away : Queued
    ebbed_away = rounds net most_routes most_services 15 one_later

    pub own_quiet : (rounds net most_routes most_services (most_own_rounds net) begins).queue ≡ []
    own_quiet =
        let opens = steps_open net laws is most_routes most_services steps (begun histories) own (record { are = are; waiting = tt }) in
        let first = ebbs_soon net laws is most_routes most_services begins opens in
        let ebb = ebbs_on 15 one_later first.histories first.queue in
        let dying = all_then (Ebbs net laws is most_routes most_services unreachable) (Dying net laws is most_routes most_services 0 ebbed_away.histories)
        (ebbed_out net laws is most_routes most_services ebbed_away.histories) ebbed_away.queue ebb.queue in
        let dead = died net laws is most_routes most_services (length net) ebbed_away ebb.histories dying in
        let last = rounds net most_routes most_services (suc (length net)) ebbed_away in
        let start : rounds net most_routes most_services (most_own_rounds net) begins ≡ rounds net most_routes most_services (suc (length net) + 15) one_later =
        rounds_more net most_routes most_services (suc (length net) + 15) 1 (most_own_rounds net) begins (omega arith) in
        let rest : rounds net most_routes most_services (suc (length net) + 15) one_later ≡ last =
        rounds_more net most_routes most_services (suc (length net)) 15 (suc (length net) + 15) one_later refl in
        ap (λ (r : Queued). r.queue) (start ∙ rest) ∙ nothing_waits net laws is most_routes most_services last.histories last.queue dead.queue
