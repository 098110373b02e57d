-- In the first rounds what is sent on runs out: after seventeen only replies wait.
use Rattle.std.proofs.Common.{◌≡◌, refl, ◌⊎◌, ℕ, zero, suc, ◌≤◌, List, Option, Some, None, Ok, inr, arith, rules}
use Rattle.std.specs.List.{AllByRecursion}
use Rattle.ipx_wire.specs.Packet.{Parts, packet_of}
use Rattle.ipx_router.specs.Facts.{heard_after}
use Rattle.ipx_router.specs.Heard.{Heard}
use Rattle.ipx_router.specs.History.{History}
use Rattle.ipx_router.specs.Numbers.{most_routers}
use Rattle.ipx_router.specs.Port.{Port, port_at}
use Rattle.ipx_internet.specs.Internet.{Internet, IsInternet, ports_of, port_of}
use Rattle.ipx_internet.specs.Queue.{Delivery, Queued, history_of}
use Rattle.ipx_internet.specs.Rounds.{IsDelivery, rounds}
use Rattle.ipx_internet.specs.Run.{AreHistories}
use Rattle.ipx_internet.proofs.deliveries.WaitsAfterDelivery.{keeps_histories, all_wait}
use Rattle.ipx_internet.proofs.lists.EachElement.{all_then}
use Rattle.ipx_internet.proofs.packets.SentOnOrReply.{Layouts, IsReply, IsOnward, unsaid, all_reply}
use Rattle.ipx_internet.proofs.places.OneReceiverOfANode.{ports_at}
use Rattle.ipx_internet.proofs.rounds.OneRound.{sents, Steps, Holds, rounded}

-- a packet that came through that many routers at least, and through sixteen at most
pub record Came (fewest : ℕ) (bytes : List ℕ) : Type 0 where
  pub packet : Parts
  pub read : packet_of bytes ≡ Ok packet
  pub least : fewest ≤ packet.header.control
  pub most : packet.header.control ≤ most_routers

-- what waits on a port after so many rounds
abbrev pub Spent : ℕ → Port → List ℕ → Type 0
Spent zero port bytes = Unit
Spent (suc g) port bytes = Came (suc g) bytes ⊎ IsReply port bytes

-- a reply is one on each port of its network
pub reply_moves : (a b : Port) (bytes : List ℕ) → b.network ≡ a.network → IsReply a bytes → IsReply b bytes
reply_moves a b bytes same reply = grind arith

spent_moves : (g : ℕ) (a b : Port) (bytes : List ℕ) → b.network ≡ a.network → Spent g a bytes → Spent g b bytes
spent_moves g a b bytes same is = grind arith

-- what is sent on came through one router more
came_more : (g : ℕ) (port other : Port) (bytes sent : List ℕ) → Spent g port bytes → IsOnward port bytes sent → Spent (suc g) other sent
came_more g port other bytes sent old on = grind arith

module _ (net : Internet) (laws : Layouts) (is : IsInternet net) (most_routes most_services : ℕ) where
  -- a delivery of such bytes
  abbrev pub SpentAt : ℕ → Delivery → Type 0
  SpentAt g d = IsDelivery net d × Spent g (port_of net d.to) d.bytes

  module _ (g : ℕ) (histories : List History) (d : Delivery) (are : AreHistories net histories) (old : SpentAt g d) where
    abbrev ports : List Port
    ports = ports_of net d.to.router

    sent_spent : AllByRecursion (λ s. Spent (suc g) (port_at ports s.port) s.bytes) (sents net most_routes most_services histories d)
    sent_spent = by (heard_after ports history d.to.port d.bytes) refl
      where
        history : History
        history = history_of histories d.to.router

        by : (o : Option Heard) → heard_after ports history d.to.port d.bytes ≡ o
            → AllByRecursion (λ s. Spent (suc g) (port_at ports s.port) s.bytes) (sents net most_routes most_services histories d)
        by None e =
            all_then (λ s. IsOnward (port_at ports d.to.port) d.bytes s.bytes) (λ s. Spent (suc g) (port_at ports s.port) s.bytes)
            (λ s on. came_more g (port_at ports d.to.port) (port_at ports s.port) d.bytes s.bytes old.1 on) (sents net most_routes most_services histories d)
            (unsaid laws ports (ports_at net is d.to.router) most_routes most_services history (are.on_ports d.to.router) (are.of_bytes d.to.router)
            d.to.port d.bytes old.0.place old.0.bytes e)
        by (Some m) e =
            all_then (λ s. IsReply (port_at ports s.port) s.bytes) (λ s. Spent (suc g) (port_at ports s.port) s.bytes) (λ s reply. inr reply)
            (sents net most_routes most_services histories d)
            (all_reply laws ports (ports_at net is d.to.router) most_routes most_services history (are.on_ports d.to.router) (are.of_bytes d.to.router)
            d.to.port d.bytes old.0.place old.0.bytes m e)

  spending : (g : ℕ) → Steps net most_routes most_services (AreHistories net) (SpentAt g) (λ histories. SpentAt (suc g))
  spending g = record {
    keeps = λ histories d are old. keeps_histories net laws is most_routes most_services histories are d old.0;
    sends = λ histories d are old.
        all_wait net laws is most_routes most_services histories are d old.0 (Spent (suc g)) (spent_moves (suc g)) (sent_spent g histories d are old);
    lasts = λ histories d other are old new. new;
  }

  pub spent : (g : ℕ) (q : Queued) → AreHistories net q.histories → AllByRecursion (IsDelivery net) q.queue
      → Holds net most_routes most_services (AreHistories net) (λ histories. SpentAt g) (rounds net most_routes most_services g q)
  spent zero q are all = record { histories = are; queue = all_then (IsDelivery net) (SpentAt 0) (λ d is. (is, tt)) q.queue all }
  spent (suc g) q are all = search (rules, spent g q are all, rounded, spending)

  -- replies alone
  abbrev pub Calm : Delivery → Type 0
  Calm d = IsDelivery net d × IsReply (port_of net d.to) d.bytes

  only_replies : (d : Delivery) → SpentAt 17 d → Calm d
  only_replies d given = grind arith

  pub all_calm : (q : Queued) → AreHistories net q.histories → AllByRecursion (IsDelivery net) q.queue
      → Holds net most_routes most_services (AreHistories net) (λ histories. Calm) (rounds net most_routes most_services 17 q)
  all_calm q are all =
      let after = spent 17 q are all in
      record { histories = after.histories; queue = all_then (SpentAt 17) Calm only_replies (rounds net most_routes most_services 17 q).queue after.queue }
