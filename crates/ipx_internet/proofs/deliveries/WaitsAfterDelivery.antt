-- What waits after a delivery: what is said of each packet that its router sends is so of each port that receives it.
use Rattle.std.proofs.Common.{◌≡◌, ℕ, ◌<◌, length, List, [], ◌∷◌}
use Rattle.std.specs.List.{AllByRecursion}
use Rattle.ipx_wire.specs.Piece.{IsBytes}
use Rattle.ipx_router.specs.History.{History, Packet, IsOnPort, IsOfBytes}
use Rattle.ipx_router.specs.Port.{Port, port_at}
use Rattle.ipx_router.proofs.lists.EachElement.{all_both}
use Rattle.ipx_internet.specs.Internet.{Internet, Place, IsInternet, ports_of, port_of}
use Rattle.ipx_internet.specs.Queue.{Delivery, history_of}
use Rattle.ipx_internet.specs.Rounds.{IsDelivery}
use Rattle.ipx_internet.specs.Run.{AreHistories}
use Rattle.ipx_internet.proofs.lists.EachElement.{all-append}
use Rattle.ipx_internet.proofs.packets.SentOnOrReply.{Layouts}
use Rattle.ipx_internet.proofs.places.OneReceiverOfANode.{ports_at, receives_is}
use Rattle.ipx_internet.proofs.rounds.OneRound.{happened, sents, sent_for, each_delivery}
use Rattle.ipx_internet.proofs.trees.RunIsALog.{histories_more, router_there}

module _ (net : Internet) (laws : Layouts) (is : IsInternet net) (most_routes most_services : ℕ) (histories : List History) (are : AreHistories net histories)
    (d : Delivery) (delivery : IsDelivery net d) where
  abbrev ports : List Port
  ports = ports_of net d.to.router

  abbrev history : History
  history = history_of histories d.to.router

  pub there : d.to.router < length net
  there = router_there net d.to.router d.to.port delivery.place

  pub keeps_histories : AreHistories net (happened net most_routes most_services histories d)
  keeps_histories = histories_more net histories d.to.router (Packet d.to.port d.bytes) are there delivery.place delivery.bytes

  sent_bytes : AllByRecursion (λ s. IsBytes s.bytes) (sents net most_routes most_services histories d)
  sent_bytes =
      laws.bytes ports most_routes most_services history (Packet d.to.port d.bytes) (ports_at net is d.to.router)
      (all-append (IsOnPort ports) history (Packet d.to.port d.bytes ∷ []) (are.on_ports d.to.router) (delivery.place, tt))
      (all-append IsOfBytes history (Packet d.to.port d.bytes ∷ []) (are.of_bytes d.to.router) (delivery.bytes, tt))

  -- what is said of a packet on a port, and holds as well on each port of its network
  pub all_wait : (P : Port → List ℕ → Type 0) → ((a b : Port) (bytes : List ℕ) → b.network ≡ a.network → P a bytes → P b bytes)
      → AllByRecursion (λ s. P (port_at ports s.port) s.bytes) (sents net most_routes most_services histories d)
      → AllByRecursion (λ e. IsDelivery net e × P (port_of net e.to) e.bytes) (sent_for net most_routes most_services histories d)
  all_wait P moves all =
      let these = sents net most_routes most_services histories d in
      each_delivery net most_routes most_services (λ e. IsDelivery net e × P (port_of net e.to) e.bytes)
      (λ s. IsBytes s.bytes × P (port_at ports s.port) s.bytes) d.to.router
      (λ s to both place received.
      let from : Place = record { router = d.to.router; port = s.port } in
      (record { place = place; bytes = both.0 }, moves (port_of net from) (port_of net to) s.bytes (receives_is net from s.link to received).network both.1))
      these (all_both (λ s. IsBytes s.bytes) (λ s. P (port_at ports s.port) s.bytes) these sent_bytes all)
