-- Once only replies wait, what they say that is alive has one hop more after each round.
use Rattle.std.proofs.Common.{ℕ, zero, suc, List, arith, rules}
use Rattle.std.specs.List.{AllByRecursion}
use Rattle.ipx_router.specs.Heard.{Heard}
use Rattle.ipx_router.specs.History.{History}
use Rattle.ipx_internet.specs.Internet.{Internet, IsInternet, port_of}
use Rattle.ipx_internet.specs.Queue.{Delivery, Queued}
use Rattle.ipx_internet.specs.Rounds.{IsDelivery, rounds}
use Rattle.ipx_internet.specs.Run.{AreHistories}
use Rattle.ipx_wire.specs.declared.rip.RipEntry.{RipEntry}
use Rattle.ipx_wire.specs.declared.service.Service.{Service}
use Rattle.ipx_internet.proofs.deliveries.WaitsAfterDelivery.{keeps_histories}
use Rattle.ipx_internet.proofs.lists.EachElement.{all_of, all_then}
use Rattle.ipx_internet.proofs.packets.SentOnOrReply.{Layouts}
use Rattle.ipx_internet.proofs.records.HeardChangesItsKeys.{EachHeard}
use Rattle.ipx_internet.proofs.rounds.ChangesAreOneHopMore.{Live, news_farther, news_services_farther}
use Rattle.ipx_internet.proofs.rounds.OneRound.{sent_for, Steps, Holds, rounded}
use Rattle.ipx_internet.proofs.rounds.RepliesTellChanges.{Says, IsTold, ports, history, tells_says, heard_says, telling}
use Rattle.ipx_internet.proofs.rounds.SentOnRunsOut.{Calm}

-- whatever is alive is no hop away, at least
pub at_all : (m : Heard) → EachHeard (λ e. Live 0 e.hops) (λ e. Live 0 e.hops) m
at_all m = grind (arith, all_of, Live)

-- what is one hop more away is that far away
no_nearer : (least : ℕ) (m : Heard) → EachHeard (λ e. Live (suc least) e.hops) (λ e. Live (suc least) e.hops) m → EachHeard (λ e. Live least e.hops) (λ e. Live least e.hops) m
no_nearer least m far = grind (arith, all_then, Live)

module _ (net : Internet) (laws : Layouts) (is : IsInternet net) (most_routes most_services : ℕ) where
  -- a reply in which all that is alive is so many hops away, at least
  pub record Ebbs (least : ℕ) (d : Delivery) : Type 0 where
    pub calm : Calm net laws is most_routes most_services d
    pub says : Says (λ e. Live least e.hops) (λ e. Live least e.hops) d.bytes

  module _ (least : ℕ) (histories : List History) (d : Delivery) (are : AreHistories net histories) (old : Ebbs least d) where
    abbrev P : RipEntry → Type 0
    P e = Live (suc least) e.hops

    abbrev Q : Service → Type 0
    Q s = Live (suc least) s.hops

    ebbs_then : AllByRecursion (Ebbs (suc least)) (sent_for net most_routes most_services histories d)
    ebbs_then =
        let says = heard_says net laws is most_routes most_services histories are d old.calm (λ e. Live least e.hops) (λ e. Live least e.hops) old.says in
        let at = ports net laws is most_routes most_services histories are d old.calm in
        let past = history net laws is most_routes most_services histories are d old.calm in
        all_then (λ e. IsDelivery net e × IsTold P Q (port_of net e.to) e.bytes) (Ebbs (suc least))
        (λ e both. record { calm = (both.0, both.1.reply); says = tells_says P Q P (λ e. Live (suc least) e.hops) (λ e is. is) (λ s is. is) e.bytes both.1.tells })
        (sent_for net most_routes most_services histories d)
        (telling net laws is most_routes most_services histories are d old.calm P Q
        (news_farther least at past d.to.port d.bytes says most_routes) (news_services_farther least at past d.to.port d.bytes says most_services))

  -- so many hops away still, at least
  pub ebbs_still : (least : ℕ) (histories : List History) (d : Delivery) → AreHistories net histories → Ebbs least d
      → AllByRecursion (Ebbs least) (sent_for net most_routes most_services histories d)
  ebbs_still least histories d are old =
      all_then (Ebbs (suc least)) (Ebbs least)
      (λ e ebbs. record { calm = ebbs.calm; says = λ p m read heard. no_nearer least m (ebbs.says p m read heard) })
      (sent_for net most_routes most_services histories d) (ebbs_then least histories d are old)

  pub ebbing : (least : ℕ) → Steps net most_routes most_services (AreHistories net) (Ebbs least) (λ histories. Ebbs (suc least))
  ebbing least = record {
    keeps = λ histories d are old. keeps_histories net laws is most_routes most_services histories are d old.calm.0;
    sends = λ histories d are old. ebbs_then least histories d are old;
    lasts = λ histories d other are old new. new;
  }

  pub ebbed : (k : ℕ) (q : Queued) → AreHistories net q.histories → AllByRecursion (Calm net laws is most_routes most_services) q.queue
      → Holds net most_routes most_services (AreHistories net) (λ histories. Ebbs k) (rounds net most_routes most_services k q)
  ebbed zero q are all = search (rules, all_then, Calm, at_all)
  ebbed (suc k) q are all = search (rules, ebbed k q are all, rounded, ebbing)
